-- The words that a line may begin with, as lists of their bytes, and how many numbers stand behind each. Cited by `verb_of`, `form_of` and `takes`.
-- Assumes nothing.
use Rattle.std.specs.Prelude.{Bool, true, false, cond, ◌&&◌, ◌||◌, List, [], ◌∷◌, ℕ, eqb, leb, length}
use Rattle.spoken.specs.declared.Form.{Form}
use Rattle.spoken.specs.declared.Kind.TheVariants.{Plain, Unit, Money}
use Rattle.console.specs.declared.Verb.{Verb}
use Rattle.console.specs.declared.Verb.TheVariants.{
  Round,
  Sum,
  Order,
  Negate,
  Rescale,
  Convert,
  Interest,
  TaxNet,
  TaxGross,
  NetFor,
  Row,
  Export,
  Share,
  Vouchers,
  Compound,
  Open,
  Post,
  Refund,
  Totals,
  Card,
  Settled,
  Read,
  Write,
  Statement,
  Check,
  View,
  Reasons,
  CheckAny,
  ViewAny,
  Unknown,
}

unfoldable pub same_bytes : List ℕ → List ℕ → Bool
same_bytes [] [] = true
same_bytes [] (b ∷ bs) = false
same_bytes (a ∷ rest) [] = false
same_bytes (a ∷ rest) (b ∷ bs) = eqb a b && same_bytes rest bs

-- post, open, read, card, view
abbrev pub of_four : List ℕ → Verb
of_four word =
    cond (same_bytes word (112 ∷ 111 ∷ 115 ∷ 116 ∷ [])) Post
    (cond (same_bytes word (111 ∷ 112 ∷ 101 ∷ 110 ∷ [])) Open
    (cond (same_bytes word (114 ∷ 101 ∷ 97 ∷ 100 ∷ [])) Read
    (cond (same_bytes word (99 ∷ 97 ∷ 114 ∷ 100 ∷ [])) Card
    (cond (same_bytes word (118 ∷ 105 ∷ 101 ∷ 119 ∷ [])) View
    Unknown))))

-- round, order, share, write, check
abbrev pub of_five : List ℕ → Verb
of_five word =
    cond (same_bytes word (114 ∷ 111 ∷ 117 ∷ 110 ∷ 100 ∷ [])) Round
    (cond (same_bytes word (111 ∷ 114 ∷ 100 ∷ 101 ∷ 114 ∷ [])) Order
    (cond (same_bytes word (115 ∷ 104 ∷ 97 ∷ 114 ∷ 101 ∷ [])) Share
    (cond (same_bytes word (119 ∷ 114 ∷ 105 ∷ 116 ∷ 101 ∷ [])) Write
    (cond (same_bytes word (99 ∷ 104 ∷ 101 ∷ 99 ∷ 107 ∷ [])) Check
    Unknown))))

-- refund, negate, totals, export
abbrev pub of_six : List ℕ → Verb
of_six word =
    cond (same_bytes word (114 ∷ 101 ∷ 102 ∷ 117 ∷ 110 ∷ 100 ∷ [])) Refund
    (cond (same_bytes word (110 ∷ 101 ∷ 103 ∷ 97 ∷ 116 ∷ 101 ∷ [])) Negate
    (cond (same_bytes word (116 ∷ 111 ∷ 116 ∷ 97 ∷ 108 ∷ 115 ∷ [])) Totals
    (cond (same_bytes word (101 ∷ 120 ∷ 112 ∷ 111 ∷ 114 ∷ 116 ∷ [])) Export
    Unknown)))

-- rescale, convert, tax-net, net-for, settled, reasons
abbrev pub of_seven : List ℕ → Verb
of_seven word =
    cond (same_bytes word (114 ∷ 101 ∷ 115 ∷ 99 ∷ 97 ∷ 108 ∷ 101 ∷ [])) Rescale
    (cond (same_bytes word (99 ∷ 111 ∷ 110 ∷ 118 ∷ 101 ∷ 114 ∷ 116 ∷ [])) Convert
    (cond (same_bytes word (116 ∷ 97 ∷ 120 ∷ 45 ∷ 110 ∷ 101 ∷ 116 ∷ [])) TaxNet
    (cond (same_bytes word (110 ∷ 101 ∷ 116 ∷ 45 ∷ 102 ∷ 111 ∷ 114 ∷ [])) NetFor
    (cond (same_bytes word (115 ∷ 101 ∷ 116 ∷ 116 ∷ 108 ∷ 101 ∷ 100 ∷ [])) Settled
    (cond (same_bytes word (114 ∷ 101 ∷ 97 ∷ 115 ∷ 111 ∷ 110 ∷ 115 ∷ [])) Reasons
    Unknown)))))

-- interest, vouchers, compound, view-any
abbrev pub of_eight : List ℕ → Verb
of_eight word =
    cond (same_bytes word (105 ∷ 110 ∷ 116 ∷ 101 ∷ 114 ∷ 101 ∷ 115 ∷ 116 ∷ [])) Interest
    (cond (same_bytes word (118 ∷ 111 ∷ 117 ∷ 99 ∷ 104 ∷ 101 ∷ 114 ∷ 115 ∷ [])) Vouchers
    (cond (same_bytes word (99 ∷ 111 ∷ 109 ∷ 112 ∷ 111 ∷ 117 ∷ 110 ∷ 100 ∷ [])) Compound
    (cond (same_bytes word (118 ∷ 105 ∷ 101 ∷ 119 ∷ 45 ∷ 97 ∷ 110 ∷ 121 ∷ [])) ViewAny
    Unknown)))

-- sum, tax-gross, row, statement, check-any
abbrev pub of_others : List ℕ → Verb
of_others word =
    cond (same_bytes word (115 ∷ 117 ∷ 109 ∷ [])) Sum
    (cond (same_bytes word (116 ∷ 97 ∷ 120 ∷ 45 ∷ 103 ∷ 114 ∷ 111 ∷ 115 ∷ 115 ∷ [])) TaxGross
    (cond (same_bytes word (114 ∷ 111 ∷ 119 ∷ [])) Row
    (cond (same_bytes word (115 ∷ 116 ∷ 97 ∷ 116 ∷ 101 ∷ 109 ∷ 101 ∷ 110 ∷ 116 ∷ [])) Statement
    (cond (same_bytes word (99 ∷ 104 ∷ 101 ∷ 99 ∷ 107 ∷ 45 ∷ 97 ∷ 110 ∷ 121 ∷ [])) CheckAny
    Unknown))))

-- a word is looked for among those of its length
unfoldable pub verb_of : List ℕ → Verb
verb_of word =
    cond (eqb (length word) 4) (of_four word)
    (cond (eqb (length word) 5) (of_five word)
    (cond (eqb (length word) 6) (of_six word)
    (cond (eqb (length word) 7) (of_seven word)
    (cond (eqb (length word) 8) (of_eight word)
    (of_others word)))))

-- "Wherever `CUR SCALE COEF` stands in a line ... and wherever `CUR` stands alone (`open`, the target of `convert`, `read` ..)": what the first number of
-- each is, and the fourth
abbrev pub form_of : Verb → Form
form_of Round = record { first = Plain; fourth = Plain }
form_of Sum = record { first = Money; fourth = Money }
form_of Order = record { first = Money; fourth = Money }
form_of Negate = record { first = Money; fourth = Plain }
form_of Rescale = record { first = Money; fourth = Plain }
form_of Convert = record { first = Money; fourth = Unit }
form_of Interest = record { first = Money; fourth = Plain }
form_of TaxNet = record { first = Money; fourth = Plain }
form_of TaxGross = record { first = Money; fourth = Plain }
form_of NetFor = record { first = Money; fourth = Plain }
form_of Row = record { first = Unit; fourth = Plain }
form_of Export = record { first = Money; fourth = Plain }
form_of Share = record { first = Money; fourth = Plain }
form_of Vouchers = record { first = Plain; fourth = Plain }
form_of Compound = record { first = Money; fourth = Plain }
form_of Open = record { first = Unit; fourth = Plain }
form_of Post = record { first = Money; fourth = Plain }
form_of Refund = record { first = Money; fourth = Plain }
form_of Totals = record { first = Plain; fourth = Plain }
form_of Card = record { first = Plain; fourth = Plain }
form_of Settled = record { first = Plain; fourth = Plain }
form_of Read = record { first = Unit; fourth = Plain }
form_of Write = record { first = Money; fourth = Plain }
form_of Statement = record { first = Unit; fourth = Plain }
form_of Check = record { first = Plain; fourth = Plain }
form_of View = record { first = Plain; fourth = Plain }
form_of Reasons = record { first = Unit; fourth = Plain }
form_of CheckAny = record { first = Plain; fourth = Plain }
form_of ViewAny = record { first = Plain; fourth = Plain }
form_of Unknown = record { first = Plain; fourth = Plain }

-- "`share` and `open` take any count of weights", and so do vouchers and a card, and a statement's lists; "`round MODE N D` stays, and is N x 1 / D"; `convert`
-- "without STEP it is 3"; "`refund CUR SCALE COEF REASON`", whose fourth number is "a reason code from 0 to 99", "any other number or word there is a line
-- that is not understood"; a text, which is no number, stands behind `read`, and digits stand behind the readers of statements
abbrev pub takes_of : Verb → (count fourth : ℕ) → Bool
takes_of Round count fourth = eqb count 3 || eqb count 4
takes_of Sum count fourth = eqb count 6
takes_of Order count fourth = eqb count 6
takes_of Negate count fourth = eqb count 3
takes_of Rescale count fourth = eqb count 5
takes_of Convert count fourth = eqb count 4 || eqb count 5
takes_of Interest count fourth = eqb count 12
takes_of TaxNet count fourth = eqb count 5
takes_of TaxGross count fourth = eqb count 5
takes_of NetFor count fourth = eqb count 5
takes_of Row count fourth = eqb count 5
takes_of Export count fourth = eqb count 3
takes_of Share count fourth = leb 3 count
takes_of Vouchers count fourth = leb 2 count
takes_of Compound count fourth = eqb count 6
takes_of Open count fourth = leb 1 count
takes_of Post count fourth = eqb count 3
takes_of Refund count fourth = eqb count 3 || (eqb count 4 && leb fourth 99)
takes_of Totals count fourth = eqb count 0
takes_of Card count fourth = true
takes_of Settled count fourth = eqb count 0
takes_of Read count fourth = false
takes_of Write count fourth = eqb count 4
takes_of Statement count fourth = leb 4 count
takes_of Check count fourth = false
takes_of View count fourth = false
takes_of Reasons count fourth = leb 5 count
takes_of CheckAny count fourth = false
takes_of ViewAny count fourth = false
takes_of Unknown count fourth = false
