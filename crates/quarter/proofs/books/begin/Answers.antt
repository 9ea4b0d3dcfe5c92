-- The currency and the weights are the numbers of the line. Assumes nothing.
use Rattle.std.proofs.Common.{sym, ◌∙◌, ap}
use Rattle.spoken.specs.declared.Spoken.{Spoken}
use Rattle.quarter.specs.Books.{begun_by, begun_of}
use Rattle.quarter.proofs.books.begin.Goals as goal

pub returns-in-Some : goal.returns-in-Some
unfolding begun_by begun_of
returns-in-Some c =
    let d = rw (c.form_of.ensures, c.next_word-word.ensures.said) at c.read_words-spoken.ensures in
    let r = c.read_weights-partners in
    rw (
      c.begin_with.ensures,
      r.ensures.weights,
      r.ensures.count,
      c.as_u8.ensures,
      c.nth.ensures,
      d.numbers,
      sym (ap (λ (s : Spoken). s.given) d.said) ∙ c.in-Some.is,
      ap (λ (s : Spoken). s.coded) d.said,
    )
