-- The desk's paper, "Codes and texts": what a word of a line is, after those that were heard before it. Cited by `read_words`. Assumes nothing.
use Rattle.std.specs.Prelude.{Option, Some, None, Bool, true, false, cond, ◌&&◌, List, ℕ, ◌+◌, ◌-◌, leb, ltb, eqb, length, get_or, take, drop}
use Rattle.refusal.specs.Rows.{Said, gives, refuses}
use Rattle.whole.specs.Whole.{negative, magnitude_of}
use Rattle.lines.specs.Lines.{number, nought}
use Rattle.lines.specs.Reads.{number_at}
use Rattle.lines.specs.declared.Word.{Word}
use Rattle.lines.specs.declared.Number.{Number}
use Rattle.currency.specs.declared.Currency.{Currency}
use Rattle.amount.specs.declared.Amount.{Amount}
use Rattle.text.specs.Codes.{currency_of}
use Rattle.text.specs.Read.{read_said}
use Rattle.spoken.specs.declared.Kind.{Kind}
use Rattle.spoken.specs.declared.Kind.TheVariants.{Plain, Unit, Money}
use Rattle.spoken.specs.declared.Form.{Form}
use Rattle.spoken.specs.declared.Heard.{Heard}
use Rattle.spoken.specs.declared.Step.{Step}

-- "Wherever `CUR SCALE COEF` stands in a line ..., two words may stand instead ...; and wherever `CUR` stands alone": the first place of a line's
-- numbers, and the fourth
abbrev pub kind_at : Form → ℕ → Kind
kind_at form place = cond (eqb place 0) form.first (cond (eqb place 3) form.fourth Plain)

-- a currency stands there, alone or as an amount's
abbrev pub is_unit : Kind → Bool
is_unit Plain = false
is_unit Unit = true
is_unit Money = true

abbrev pub is_money : Kind → Bool
is_money Plain = false
is_money Unit = false
is_money Money = true

-- a word that "begins with A to Z"
abbrev pub is_capital : List ℕ → Bool
is_capital word = ltb 0 (length word) && (leb 65 (get_or word 0 0) && leb (get_or word 0 0) 90)

-- so many numbers and some more; over 10,000, which no line has, they stay as many
abbrev pub many : ℕ
many = 10000

abbrev pub more : (count by : ℕ) → ℕ
more count by = cond (ltb many count) count (count + by)

-- what is heard with a word
abbrev pub heard_with : Heard → (by : ℕ) (awaited : Option Currency) (coded wrong : Bool) (refused : Option ℕ) → Heard
heard_with h by awaited coded wrong refused =
    record { count = more h.count by; awaited = awaited; coded = coded; wrong = wrong; refused = refused }

-- a number; "a word that is no number" is not understood
unfoldable pub number_step : Heard → Option Number → Step
number_step h (Some n) = record { next = heard_with h 1 None h.coded h.wrong h.refused; front = None; last = n }
number_step h None = record { next = heard_with h 1 None h.coded true h.refused; front = None; last = nought }

-- "Where the first currency of a line was a code": a code that has no number before it
abbrev pub coded_with : (count : ℕ) → Bool → Bool
coded_with count coded = cond (eqb count 0) true coded

-- "`CODE TEXT`, a currency's three capitals and a text of Ask 1": the code, whose text comes next where an amount stands there
unfoldable pub code_step : Heard → Currency → (money : Bool) → Step
code_step h currency money =
    record {
      next = heard_with h 1 (cond money (Some currency) None) (coded_with h.count h.coded) h.wrong h.refused;
      front = None;
      last = number false currency.0;
    }

-- "its texts are read by the library, from the left, and the first that is refused is the line's answer": the text's scale and coefficient
abbrev pub first_refused : Option ℕ → (number : ℕ) → Option ℕ
first_refused None number = Some number
first_refused (Some earlier) number = Some earlier

unfoldable pub text_step : Heard → Said Amount → Step
text_step h (gives a) =
    record {
      next = heard_with h 2 None h.coded h.wrong h.refused;
      front = Some (number false a.scale);
      last = number (negative a.coefficient) (magnitude_of a.coefficient);
    }
text_step h (refuses number blamed) =
    record { next = heard_with h 2 None h.coded h.wrong (first_refused h.refused number); front = Some nought; last = nought }

-- "A word in CUR's place that begins with A to Z is taken for a code; one that is none of the table's is passed as currency 255": the bytes of a word
abbrev pub bytes_of : List ℕ → Word → List ℕ
bytes_of line word = take (word.end - word.start) (drop word.start line)

abbrev pub word_step : List ℕ → Word → Form → Heard → Step
word_step line word form h =
    let bytes = bytes_of line word in
    let kind = kind_at form h.count in
    cond (is_unit kind && is_capital bytes) (code_step h (currency_of bytes) (is_money kind)) (number_step h (number_at line word))

-- a text where one is awaited
abbrev pub step_by : Option Currency → List ℕ → Word → Form → Heard → Step
step_by (Some currency) line word form h = text_step h (read_said currency (bytes_of line word))
step_by None line word form h = word_step line word form h

unfoldable pub step_of : List ℕ → Word → Form → Heard → Step
step_of line word form h = step_by h.awaited line word form h
