-- What the writer puts into the buffer, piece by piece, is the text in front of it: a piece behind a piece is both at the first's place, and the digits behind the point are those of
-- the power of ten and the rest together, with the point in the place of its 1. Assumes nothing.
use Rattle.std.specs.Prelude.{Ok, Err, Result}
use mathlib.Core.Path.{◌≡◌, refl, sym, ◌∙◌, ap, ap₂}
use mathlib.Core.Bool.{Bool, false}
use mathlib.Core.List.{List, [], ◌∷◌, ◌++◌, append_assoc}
use Prim.Native.Nat.{ℕ, zero, suc, ◌+◌, ◌*◌, ◌/◌, ◌%◌, ◌^◌, ◌≤◌, ◌<◌}
use native.Mathlib.Nat.{pow-suc, one-le-pow, mod-one, mod-lt, mod-eq_of_lt, div-add-mod', mul-add-mod_self_right}
use native.Mathlib.Omega.{arith}
use borrow.Author.Tests.{le-ltb, lt-ltb}
use lib.ListN.{length, take, drop, set, length-append, take-append-drop}
use lib.Seq.{length-take-le, take_at, drop-append-add, drop-drop, set_at}
use Rattle.refusal.specs.declared.Refusal.TheVariants.{Room}
use Rattle.refusal.specs.declared.Refusal.{Refusal}
use Rattle.refusal.specs.Number.{number_of, blamed_of}
use Rattle.refusal.specs.Rows.{gives, refuses, Row, check_of}
use Rattle.refusal.proofs.Check.{passed, refused, behind as rows_behind}
use Rattle.whole.specs.Whole.{magnitude_of}
use Rattle.lines.specs.Texts.{decimal, text_of, put_at, place_behind}
use Rattle.lines.proofs.Fills.{one_digit, more_digits, put, behind}
use Rattle.lines.proofs.Puts.{put_length}
use Rattle.text.specs.Grammar.{minus, pointed}
use Rattle.amount.specs.declared.Amount.{Amount}
use Rattle.amount.specs.Amounts.{amount_rows}
use Rattle.text.specs.Written.{last_digits, spelled, text_of as amount_text, write_said, room_rows, room_said, buffer_after, Writes}
use Rattle.text.proofs.Spelled.{last_length}

-- a piece behind a piece
module _ (out : List ℕ) (at : ℕ) (xs ys : List ℕ) (room : at + length xs + length ys ≤ length out) where
  head : List ℕ
  head = take at out ++ xs

  head_long : length head ≡ at + length xs
  unfolding head
  head_long = length-append (take at out) xs ∙ ap (λ (k : ℕ). k + length xs) (length-take-le at out (omega arith))

  first_put : put_at out at xs ≡ head ++ drop (at + length xs) out
  unfolding head
  first_put = put out at xs (omega arith) ∙ sym (append_assoc (take at out) xs (drop (at + length xs) out))

  pub put_more : put_at (put_at out at xs) (at + length xs) ys ≡ put_at out at (xs ++ ys)
  unfolding head
  put_more =
      let both : length (xs ++ ys) ≡ length xs + length ys = length-append xs ys in
      let rest : drop (at + length xs + length ys) (head ++ drop (at + length xs) out) ≡ drop (at + length (xs ++ ys)) out =
      ap (λ (k : ℕ). drop (k + length ys) (head ++ drop (at + length xs) out)) (sym head_long)
      ∙ drop-append-add head (drop (at + length xs) out) (length ys)
      ∙ drop-drop (length ys) (at + length xs) out
      ∙ ap (λ (k : ℕ). drop k out) {x = at + length xs + length ys} {y = at + length (xs ++ ys)} (omega (arith, both)) in
      put (put_at out at xs) (at + length xs) ys (omega (arith, put_length out at xs))
      ∙ ap (λ (o : List ℕ). take (at + length xs) o ++ (ys ++ drop (at + length xs + length ys) o)) first_put
      ∙ ap₂ (λ (p q : List ℕ). p ++ (ys ++ q)) (take_at head (drop (at + length xs) out) (at + length xs) head_long) rest
      ∙ append_assoc (take at out) xs (ys ++ drop (at + length (xs ++ ys)) out)
      ∙ ap (λ (zs : List ℕ). take at out ++ zs) (sym (append_assoc xs ys (drop (at + length (xs ++ ys)) out)))
      ∙ sym (put out at (xs ++ ys) (omega (arith, both)))

-- nothing put is nothing changed
pub put_none : (out : List ℕ) (at : ℕ) → at ≤ length out → put_at out at [] ≡ out
put_none out at h =
    let e : at + length {A = ℕ} [] ≡ at = omega arith in
    put out at [] (omega arith) ∙ ap (λ (k : ℕ). take at out ++ drop k out) e ∙ take-append-drop at out

-- another byte in the first one's place
pub put_over : (out : List ℕ) (at b c : ℕ) (bs : List ℕ) → at + suc (length bs) ≤ length out → set (put_at out at (b ∷ bs)) at c ≡ put_at out at (c ∷ bs)
put_over out at b c bs room =
    ap (λ (o : List ℕ). set o at c) (put out at (b ∷ bs) room)
    ∙ set_at (take at out) b (bs ++ drop (at + suc (length bs)) out) c at (length-take-le at out (omega arith))
    ∙ sym (put out at (c ∷ bs) room)

-- the power of ten and the rest together
under : (n x : ℕ) → 0 < x → (n % (x * 10) / 10 ≡ (n / 10) % x) × (n % (x * 10) % 10 ≡ n % 10)
under n x some =
    let q : ℕ = n / (x * 10) in
    let r : ℕ = n % (x * 10) in
    let all : n / (x * 10) * (x * 10) + n % (x * 10) ≡ n = div-add-mod' n (x * 10) in
    let less : n % (x * 10) < x * 10 = mod-lt n (omega arith) in
    let tens : n / (x * 10) * (x * 10) ≡ n / (x * 10) * x * 10 = omega arith in
    let quotient : n / 10 ≡ n / (x * 10) * x + n % (x * 10) / 10 = omega (arith, all, tens) in (
      sym (mod-eq_of_lt {n = n % (x * 10) / 10} {m = x} (omega (arith, less))) ∙ sym (mul-add-mod_self_right (n / (x * 10)) x (n % (x * 10) / 10)) ∙ ap (λ (k : ℕ). k % x) (sym quotient),
      omega (arith, all, tens),
    )

pub power_digits : (places scale n : ℕ) → scale < places → decimal places (10 ^ scale + n % 10 ^ scale) ≡ 49 ∷ last_digits scale n
unfolding last_digits
power_digits zero scale n h = absurd (omega arith)
power_digits (suc places) zero n h = let e : 1 + n % 1 ≡ 1 = omega (arith, mod-one n) in rw e (one_digit places 1 (omega arith))
power_digits (suc places) (suc scale) n h =
    let power : 10 ^ suc scale ≡ 10 ^ scale * 10 = pow-suc 10 scale in
    let some : 1 ≤ 10 ^ scale = one-le-pow scale 10 (omega arith) in
    let parts = under n (10 ^ scale) some in
    let tens : (10 ^ scale * 10 + n % (10 ^ scale * 10)) / 10 ≡ 10 ^ scale + (n / 10) % 10 ^ scale = omega (arith, parts.0) in
    let unit : (10 ^ scale * 10 + n % (10 ^ scale * 10)) % 10 ≡ n % 10 = omega (arith, parts.1) in
    ap (λ (x : ℕ). decimal (suc places) (x + n % x)) power
    ∙ more_digits places (10 ^ scale * 10 + n % (10 ^ scale * 10)) (omega arith)
    ∙ ap₂ (λ (x y : ℕ). decimal places x ++ ((48 + y) ∷ [])) tens unit
    ∙ ap (λ (ds : List ℕ). ds ++ ((48 + n % 10) ∷ [])) (power_digits places scale (n / 10) (omega arith))

pub pointed_digits : (scale n : ℕ) → 0 < scale → pointed (last_digits scale n) ≡ 46 ∷ last_digits scale n
pointed_digits scale n h = by (last_digits scale n) (omega (arith, last_length scale n))
  where
    by : (ds : List ℕ) → 0 < length ds → pointed ds ≡ 46 ∷ ds
    by [] l = absurd (omega arith)
    by (d ∷ ds) l = refl

-- the length of the text by its pieces
pub spelled_length
    : (sign : Bool) (m scale : ℕ)
    → length (spelled sign m scale) ≡ length (minus sign) + (length (decimal 20 (m / 10 ^ scale)) + length (pointed (last_digits scale m)))
unfolding spelled
spelled_length sign m scale =
    length-append (minus sign) (decimal 20 (m / 10 ^ scale) ++ pointed (last_digits scale m))
    ∙ ap (λ (k : ℕ). length (minus sign) + k) (length-append (decimal 20 (m / 10 ^ scale)) (pointed (last_digits scale m)))

pub no_point : (scale n : ℕ) → scale ≡ 0 → pointed (last_digits scale n) ≡ []
no_point scale n e = ap (λ (k : ℕ). pointed (last_digits k n)) e ∙ none
  where
    none : pointed (last_digits 0 n) ≡ []
    none = by (last_digits 0 n) (last_length 0 n)
      where
        by : (ds : List ℕ) → length ds ≡ 0 → pointed ds ≡ []
        by [] h = refl
        by (d ∷ ds) h = absurd (omega arith)

pub point_length : (scale n : ℕ) → 0 < scale → length (pointed (last_digits scale n)) ≡ suc scale
point_length scale n h = ap length (pointed_digits scale n h) ∙ ap suc (last_length scale n)

-- the three pieces
pub pieces
    : (out : List ℕ) (sign : Bool) (m scale : ℕ) → length (spelled sign m scale) ≤ length out
    → put_at (put_at (put_at out 0 (minus sign)) (length (minus sign)) (decimal 20 (m / 10 ^ scale))) (length (minus sign) + length (decimal 20 (m / 10 ^ scale))) (pointed (last_digits scale m))
    ≡ put_at out 0 (spelled sign m scale)
unfolding spelled
pieces out sign m scale room =
    let s : List ℕ = minus sign in
    let w : List ℕ = decimal 20 (m / 10 ^ scale) in
    let f : List ℕ = pointed (last_digits scale m) in
    let long = spelled_length sign m scale in
    let two : put_at (put_at out 0 s) (length s) w ≡ put_at out 0 (s ++ w) =
    ap (λ (k : ℕ). put_at (put_at out 0 s) k w) {x = length s} {y = 0 + length s} (omega arith) ∙ put_more out 0 s w (omega (arith, long)) in
    let both : length (s ++ w) ≡ length s + length w = length-append s w in
    ap (λ (o : List ℕ). put_at o (length s + length w) f) two
    ∙ ap (λ (k : ℕ). put_at (put_at out 0 (s ++ w)) k f) {x = length s + length w} {y = 0 + length (s ++ w)} (omega (arith, both))
    ∙ put_more out 0 (s ++ w) f (omega (arith, long, both))
    ∙ ap (put_at out 0) (append_assoc s w f)

-- what is answered with room, and without
module _ (text out : List ℕ) where
  pub written : length text ≤ length out → (r : Result ℕ Refusal) (after : List ℕ) → r ≡ Ok (length text) → after ≡ put_at out 0 text
      → Writes text (room_said text (length out)) out r after
  unfolding buffer_after
  written room r after e put-there =
      let said : room_said text (length out) ≡ gives (length text) = rw (le-ltb (length out) (length text) room) in
      let k : 0 + length text ≡ length text = omega arith in
      rw (said, e)
      (record {
        answer = refl;
        left = put-there ∙ put out 0 text (omega arith) ∙ ap (λ (n : ℕ). text ++ drop n out) k;
      })

  pub not_written : length out < length text → (r : Result ℕ Refusal) → r ≡ Err Room → Writes text (room_said text (length out)) out r out
  unfolding buffer_after
  not_written short r e =
      let said : room_said text (length out) ≡ refuses 11 0 = rw (lt-ltb (length out) (length text) short) in
      rw (said, e) (record { answer = refl; left = refl })

-- the buffer after each piece
module _
    (out o₁ o₂ : List ℕ) (sign : Bool) (m scale q at end : ℕ) (room : length (spelled sign m scale) ≤ length out)
    (first : o₁ ≡ put_at out 0 (minus sign)) (at-behind : at ≡ place_behind out 0 (minus sign)) (units : q ≡ m / 10 ^ scale)
    (second : o₂ ≡ put_at o₁ at (text_of false q)) (end-behind : end ≡ place_behind o₁ at (text_of false q)) where
  long : length o₁ ≡ length out
  long = ap length first ∙ put_length out 0 (minus sign)

  at_is : at ≡ length (minus sign)
  at_is = at-behind ∙ behind out 0 (minus sign) (omega (arith, spelled_length sign m scale)) ∙ omega arith

  digits_are : text_of false q ≡ decimal 20 (m / 10 ^ scale)
  unfolding text_of
  digits_are = ap (decimal 20) units

  fits : at + length (text_of false q) ≤ length o₁
  fits = omega (arith, at_is, ap length digits_are, long, spelled_length sign m scale)

  end_is : end ≡ length (minus sign) + length (decimal 20 (m / 10 ^ scale))
  end_is = end-behind ∙ behind o₁ at (text_of false q) fits ∙ omega (arith, at_is, ap length digits_are)

  pub third_fits : end + length (pointed (last_digits scale m)) ≤ length o₂
  third_fits = omega (arith, end_is, ap length second, put_length o₁ at (text_of false q), long, spelled_length sign m scale)

  pub all_put : (o₃ : List ℕ) → o₃ ≡ put_at o₂ end (pointed (last_digits scale m)) → o₃ ≡ put_at out 0 (spelled sign m scale)
  all_put o₃ third =
      third
      ∙ ap₂ (λ (o : List ℕ) (k : ℕ). put_at o k (pointed (last_digits scale m))) (second ∙ ap₂ (λ (o : List ℕ) (k : ℕ). put_at o k (text_of false q)) first at_is) end_is
      ∙ ap (λ (ds : List ℕ). put_at (put_at (put_at out 0 (minus sign)) (length (minus sign)) ds) (length (minus sign) + length (decimal 20 (m / 10 ^ scale))) (pointed (last_digits scale m))) digits_are
      ∙ pieces out sign m scale room

-- what is answered in front of the room's row
module _ (a : Amount) (out : List ℕ) where
  abbrev front : List Row
  front = amount_rows a.scale (magnitude_of a.coefficient) a.currency

  pub passed_said : check_of front ≡ Ok tt → write_said a (length out) ≡ room_said (amount_text a) (length out)
  unfolding write_said
  passed_said e =
      rows_behind (gives (length (amount_text a))) front (room_rows (amount_text a) (length out)) ∙ passed (room_said (amount_text a) (length out)) front e

  pub refused_writes : (r : Refusal) → check_of front ≡ Err r → Writes (amount_text a) (write_said a (length out)) out (Err r) out
  unfolding write_said buffer_after
  refused_writes r e =
      let said : write_said a (length out) ≡ refuses (number_of r) (blamed_of r) =
      rows_behind (gives (length (amount_text a))) front (room_rows (amount_text a) (length out)) ∙ refused (room_said (amount_text a) (length out)) front r e in
      rw said (record { answer = refl; left = refl })
