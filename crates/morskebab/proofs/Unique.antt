-- Every promise of the face but that of `mkb_net_for` is an equation: the answer is a term over what C gave, and so is every lent place. Two
-- answers that a promise allows are equal, and so are the lent places that they leave. Assumes nothing.
use Rattle.std.specs.Prelude.{Result}
use Rattle.refusal.specs.Rows.{means}
use mathlib.Core.Path.{◌≡◌, sym, ◌∙◌, ap}
use mathlib.Core.Bool.{Bool}
use mathlib.Core.List.{List}
use Prim.Native.Nat.{ℕ}
use lib.IntN.{ℤ}
use lib.ListN.{length}
use Rattle.rounding.proofs.Unique.{one_answer}
use Rattle.whole.specs.Whole.{magnitude_of}
use Rattle.weights.specs.Lent.{out_after}
use Rattle.sharing.specs.Shared.{shared_said}
use Rattle.vouchers.specs.Said.{vouchers_said}
use Rattle.compound.specs.Table.{table_said, list_after}
use Rattle.statement.specs.declared.Version.TheVariants.{Reasons}
use Rattle.statement.specs.Files.{file_bytes, file_of}
use Rattle.statement.specs.Writing.{payout, payout_with, write_said, reasons_said, buffer_after}
use Rattle.text.specs.Written.{text_of, write_said as textSaid, buffer_after as textAfter}
use Rattle.tax.proofs.Unique.{one_net_for_gross}
use Rattle.flat.specs.declared.MkbAmount.{MkbAmount}
use Rattle.flat.specs.declared.MkbSplit.{MkbSplit}
use Rattle.flat.specs.declared.MkbWritten.{MkbWritten}
use Rattle.bulk.specs.Runs.{run_said, payouts_after, numbers_after}
use Rattle.flat.specs.declared.MkbBook.{MkbBook}
use Rattle.flat.specs.declared.MkbRan.{MkbRan}
use Rattle.flat.specs.declared.MkbEnd.{MkbEnd}
use Rattle.flat.specs.Given.{currency_from, amount_from, book_from, passed8, passed32, passed64}
use Rattle.flat.specs.Statements.{end_of}
use Rattle.flat.specs.Answers.{refusal_of, split_of, written_of}
use Rattle.flat.specs.Books.{ran_of}
use Rattle.tax.specs.declared.Split.{Split}
use Rattle.refusal.specs.declared.Refusal.{Refusal}
use Rattle.morskebab.specs.NetAnswer.{NetAnswer}

-- `mkb_net_for` promises what may be said of the gross, and only one thing may
pub one_net_for : (gross : MkbAmount) (rate mode : ℤ) (r s : MkbSplit) → NetAnswer gross rate mode r → NetAnswer gross rate mode s → r ≡ s
one_net_for gross rate mode r s p q =
    let same = one_net_for_gross (amount_from gross) (passed32 rate) (passed8 mode) p.answer q.answer p.said q.said in
    p.is ∙ (ap (λ (t : Result Split Refusal). split_of (means t)) same ∙ sym q.is)

-- what `mkb_share` promises of its answer and of the output that it was lent
abbrev pub Shares : MkbAmount → (weights : List ℕ) (out : List ℤ) (r : ℕ) (left : List ℤ) → Type 0
Shares a weights out r left =
    let said = shared_said (amount_from a) weights (length out) in (r ≡ refusal_of said) × (left ≡ out_after said out)

pub one_share : (a : MkbAmount) (weights : List ℕ) (out : List ℤ) (r s : ℕ) (left left' : List ℤ)
    → Shares a weights out r left → Shares a weights out s left' → (r ≡ s) × (left ≡ left')
one_share a weights out r s left left' p q = (one_answer p.0 q.0, one_answer p.1 q.1)

-- what `mkb_vouchers` promises of its answer and of the output that it was lent
abbrev pub Vouchers : (count : ℤ) (weights out : List ℕ) (r : ℕ) (left : List ℕ) → Type 0
Vouchers count weights out r left =
    let said = vouchers_said (passed32 count) weights (length out) in (r ≡ refusal_of said) × (left ≡ out_after said out)

pub one_vouchers : (count : ℤ) (weights out : List ℕ) (r s : ℕ) (left left' : List ℕ)
    → Vouchers count weights out r left → Vouchers count weights out s left' → (r ≡ s) × (left ≡ left')
one_vouchers count weights out r s left left' p q = (one_answer p.0 q.0, one_answer p.1 q.1)

-- what `mkb_compound` promises of its answer and of the list that it was lent
abbrev pub Tables : MkbAmount → (rate periods : ℤ) (out : List ℤ) (r : ℕ) (left : List ℤ) → Type 0
Tables principal rate periods out r left =
    let said = table_said (amount_from principal) (passed32 rate) (passed32 periods) (length out) in
    (r ≡ refusal_of said) × (left ≡ list_after (magnitude_of principal.coefficient) (passed32 rate) said out)

pub one_compound : (principal : MkbAmount) (rate periods : ℤ) (out : List ℤ) (r s : ℕ) (left left' : List ℤ)
    → Tables principal rate periods out r left → Tables principal rate periods out s left' → (r ≡ s) × (left ≡ left')
one_compound principal rate periods out r s left left' p q = (one_answer p.0 q.0, one_answer p.1 q.1)

-- what `mkb_write_statement` promises of its answer and of the buffer that it was lent
abbrev pub Writes : (currency : ℤ) (places : List ℕ) (coefficients : List ℤ) (out : List ℕ) (start : ℤ) (r : MkbEnd) (left : List ℕ) → Type 0
Writes currency places coefficients out start r left =
    let said = write_said (currency_from currency) places coefficients (length out) (passed64 start) in
    (r ≡ end_of said) × (left ≡ buffer_after said (passed64 start) (file_bytes (payout (currency_from currency) places coefficients) (length places)) out)

pub one_statement : (currency : ℤ) (places : List ℕ) (coefficients : List ℤ) (out : List ℕ) (start : ℤ) (r s : MkbEnd) (left left' : List ℕ)
    → Writes currency places coefficients out start r left → Writes currency places coefficients out start s left' → (r ≡ s) × (left ≡ left')
one_statement currency places coefficients out start r s left left' p q = (one_answer p.0 q.0, one_answer p.1 q.1)

-- what `mkb_write_reasons` promises of its answer and of the buffer that it was lent
abbrev pub WritesReasons : (currency : ℤ) (places reasons : List ℕ) (coefficients : List ℤ) (out : List ℕ) (start : ℤ) (r : MkbEnd) (left : List ℕ) → Type 0
WritesReasons currency places reasons coefficients out start r left =
    let said = reasons_said (currency_from currency) places reasons coefficients (length out) (passed64 start) in
    (r ≡ end_of said) × (left ≡ buffer_after said (passed64 start) (file_of Reasons (payout_with (currency_from currency) places reasons coefficients) (length places)) out)

pub one_reasons : (currency : ℤ) (places reasons : List ℕ) (coefficients : List ℤ) (out : List ℕ) (start : ℤ) (r s : MkbEnd) (left left' : List ℕ)
    → WritesReasons currency places reasons coefficients out start r left → WritesReasons currency places reasons coefficients out start s left' → (r ≡ s) × (left ≡ left')
one_reasons currency places reasons coefficients out start r s left left' p q = (one_answer p.0 q.0, one_answer p.1 q.1)

-- what `mkb_write` promises of its answer and of the buffer that it was lent
abbrev pub Texts : MkbAmount → (out : List ℕ) (r : MkbWritten) (left : List ℕ) → Type 0
Texts a out r left =
    let said = textSaid (amount_from a) (length out) in (r ≡ written_of said) × (left ≡ textAfter (text_of (amount_from a)) said out)

pub one_write : (a : MkbAmount) (out : List ℕ) (r s : MkbWritten) (left left' : List ℕ) → Texts a out r left → Texts a out s left' → (r ≡ s) × (left ≡ left')
one_write a out r s left left' p q = (one_answer p.0 q.0, one_answer p.1 q.1)

-- what `mkb_run` promises of its answer and of the places that it was lent, which are those after as many calls as the answer says were served
pub record Ran (book : MkbBook) (refunds : List Bool) (coefficients : List ℤ) (payouts numbers : List ℕ) (r : MkbRan) (paid said : List ℕ) : Type 0 where
  pub answer : r ≡ ran_of book refunds coefficients (run_said (book_from book) (length refunds) (length coefficients) (length payouts) (length numbers))
  pub pays : paid ≡ payouts_after (book_from book) refunds coefficients payouts r.served
  pub numbered : said ≡ numbers_after (book_from book) refunds coefficients numbers r.served

pub one_run : (book : MkbBook) (refunds : List Bool) (coefficients : List ℤ) (payouts numbers : List ℕ) (r s : MkbRan) (paid said paid' said' : List ℕ)
    → Ran book refunds coefficients payouts numbers r paid said → Ran book refunds coefficients payouts numbers s paid' said'
    → (r ≡ s) × ((paid ≡ paid') × (said ≡ said'))
one_run book refunds coefficients payouts numbers r s paid said paid' said' p q =
    let same = one_answer p.answer q.answer in
    let payouts_same = ap (λ (a : MkbRan). payouts_after (book_from book) refunds coefficients payouts a.served) same in
    let numbers_same = ap (λ (a : MkbRan). numbers_after (book_from book) refunds coefficients numbers a.served) same in
    (same, (p.pays ∙ (payouts_same ∙ sym q.pays), p.numbered ∙ (numbers_same ∙ sym q.numbered)))
