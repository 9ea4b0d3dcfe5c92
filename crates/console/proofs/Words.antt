-- Each of the programs' words is its verb; a word with a letter more, one in capitals and an empty one are none. Assumes nothing.
use mathlib.Core.Path.{◌≡◌, refl}
use mathlib.Core.List.{[], ◌∷◌}
use Rattle.console.specs.Verbs.{same_bytes, verb_of}
use Rattle.console.specs.declared.Verb.TheVariants.{Open, Post, Refund, Unknown}

pub post_is : verb_of (112 ∷ 111 ∷ 115 ∷ 116 ∷ []) ≡ Post
unfolding verb_of same_bytes
post_is = refl

pub refund_is : verb_of (114 ∷ 101 ∷ 102 ∷ 117 ∷ 110 ∷ 100 ∷ []) ≡ Refund
unfolding verb_of same_bytes
refund_is = refl

pub open_is : verb_of (111 ∷ 112 ∷ 101 ∷ 110 ∷ []) ≡ Open
unfolding verb_of same_bytes
open_is = refl

-- `Open`, `opens` and nothing
pub none_other : (verb_of (79 ∷ 112 ∷ 101 ∷ 110 ∷ []) ≡ Unknown) × (verb_of (111 ∷ 112 ∷ 101 ∷ 110 ∷ 115 ∷ []) ≡ Unknown) × (verb_of [] ≡ Unknown)
unfolding verb_of same_bytes
none_other = (refl, refl, refl)
