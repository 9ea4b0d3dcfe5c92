-- Document 02's own bytes, by computing both sides. Assumes nothing.
use mathlib.Core.Path.{◌≡◌, refl}
use mathlib.Core.List.{List, [], ◌∷◌, ◌++◌}
use Prim.Native.Nat.{ℕ}
use lib.IntN.{pos, negsuc}
use Rattle.refusal.specs.Rows.{gives, refuses}
use Rattle.currency.specs.Names.{EUR}
use Rattle.statement.specs.Bytes.{little_endian, number_at, word_of, from_word, field_bytes}
use Rattle.statement.specs.Files.{Piece, record_bytes, trailer_bytes, joined, total_of, file_of, file_bytes}
use Rattle.statement.specs.Writing.{any_of, reasons_rows, payout_with, payout, reasons_said}
use Rattle.statement.specs.Reading.{trailer_at, bad_record, newer, version_rows, read_rows, summary_in, read_said, any_rows, any_said}
use Rattle.statement.specs.declared.Version.TheVariants.{Reasons}

-- "place 2, euro, -12.50"
abbrev one : ℕ → Piece
one = payout EUR (2 ∷ []) (negsuc 1249 ∷ [])

-- "02 00 00 00 00 00 00 00 1E FB FF FF FF FF FF FF"
abbrev line : List ℕ
line = 2 ∷ 0 ∷ 0 ∷ 0 ∷ 0 ∷ 0 ∷ 0 ∷ 0 ∷ 30 ∷ 251 ∷ 255 ∷ 255 ∷ 255 ∷ 255 ∷ 255 ∷ 255 ∷ []

-- "then 10 00 00 00 01 00 00 00 1E FB FF FF FF FF FF FF 01 00 00 00 00 00 00 00"
abbrev close : List ℕ
close =
    16 ∷ 0 ∷ 0 ∷ 0 ∷ 1 ∷ 0 ∷ 0 ∷ 0 ∷ 30 ∷ 251 ∷ 255 ∷ 255 ∷ 255 ∷ 255 ∷ 255 ∷ 255 ∷ 1 ∷ 0 ∷ 0 ∷ 0 ∷ 0 ∷ 0 ∷ 0 ∷ 0 ∷ []

pub one_case_whole : file_bytes one 1 ≡ line ++ close
unfolding file_of joined record_bytes trailer_bytes field_bytes little_endian word_of total_of
one_case_whole = refl

pub one_case_read : read_said (line ++ close) ≡ gives (record { first = 0; count = 1; sum = negsuc 1249 })
unfolding read_said read_rows newer version_rows summary_in trailer_at bad_record any_of total_of number_at word_of from_word
one_case_read = refl

-- "Bytes before the first record belong to someone else"
pub behind_others : read_said (9 ∷ 9 ∷ 9 ∷ [] ++ (line ++ close)) ≡ gives (record { first = 3; count = 1; sum = negsuc 1249 })
unfolding read_said read_rows newer version_rows summary_in trailer_at bad_record any_of total_of number_at word_of from_word
behind_others = refl

-- "An empty statement is a trailer alone, distance 0"
abbrev alone : List ℕ
alone = 0 ∷ 0 ∷ 0 ∷ 0 ∷ 0 ∷ 0 ∷ 0 ∷ 0 ∷ 0 ∷ 0 ∷ 0 ∷ 0 ∷ 0 ∷ 0 ∷ 0 ∷ 0 ∷ 1 ∷ 0 ∷ 0 ∷ 0 ∷ 0 ∷ 0 ∷ 0 ∷ 0 ∷ []

pub empty_statement : (piece : ℕ → Piece) → file_bytes piece 0 ≡ alone
unfolding file_of joined record_bytes trailer_bytes field_bytes little_endian word_of total_of
empty_statement piece = refl

pub empty_read : read_said alone ≡ gives (record { first = 0; count = 0; sum = pos 0 })
unfolding read_said read_rows newer version_rows summary_in trailer_at bad_record any_of total_of number_at word_of from_word
empty_read = refl

-- one byte fewer is no file
pub nothing_read : read_said [] ≡ refuses 14 0
unfolding read_said read_rows newer version_rows summary_in trailer_at bad_record any_of total_of number_at word_of from_word
nothing_read = refl

-- Ask 13, "Version 2 records are 24 bytes: the 16 of Ask 3, then the code (2) and zeros (6); distance is 24 x count": the same payout with code 7
abbrev seven : ℕ → Piece
seven = payout_with EUR (2 ∷ []) (7 ∷ []) (negsuc 1249 ∷ [])

abbrev behind : List ℕ
behind = 7 ∷ 0 ∷ 0 ∷ 0 ∷ 0 ∷ 0 ∷ 0 ∷ 0 ∷ []

abbrev second_close : List ℕ
second_close =
    24 ∷ 0 ∷ 0 ∷ 0 ∷ 1 ∷ 0 ∷ 0 ∷ 0 ∷ 30 ∷ 251 ∷ 255 ∷ 255 ∷ 255 ∷ 255 ∷ 255 ∷ 255 ∷ 2 ∷ 0 ∷ 0 ∷ 0 ∷ 0 ∷ 0 ∷ 0 ∷ 0 ∷ []

pub second_whole : file_of Reasons seven 1 ≡ line ++ (behind ++ second_close)
unfolding file_of joined record_bytes trailer_bytes field_bytes little_endian word_of total_of
second_whole = refl

pub second_read : any_said (line ++ (behind ++ second_close)) ≡ gives (record { version = 2; summary = record { first = 0; count = 1; sum = negsuc 1249 } })
unfolding any_said any_rows version_rows summary_in trailer_at bad_record any_of total_of number_at word_of from_word
second_read = refl

pub first_read_too : any_said (line ++ close) ≡ gives (record { version = 1; summary = record { first = 0; count = 1; sum = negsuc 1249 } })
unfolding any_said any_rows version_rows summary_in trailer_at bad_record any_of total_of number_at word_of from_word
first_read_too = refl

-- "The old reader must answer a well-formed version 2 file with 17"
pub second_is_newer : read_said (line ++ (behind ++ second_close)) ≡ refuses 17 0
unfolding read_said read_rows newer version_rows summary_in trailer_at bad_record any_of total_of number_at word_of from_word
second_is_newer = refl

-- "A code over 99 is 9 when written, 14 when read"
pub code_99_written : reasons_said EUR (2 ∷ []) (99 ∷ []) (negsuc 1249 ∷ []) 48 0 ≡ gives 48
unfolding reasons_said reasons_rows any_of
code_99_written = refl

pub code_100_written : reasons_said EUR (2 ∷ []) (100 ∷ []) (negsuc 1249 ∷ []) 48 0 ≡ refuses 9 0
unfolding reasons_said reasons_rows any_of
code_100_written = refl

pub code_100_read : any_said (line ++ ((100 ∷ 0 ∷ 0 ∷ 0 ∷ 0 ∷ 0 ∷ 0 ∷ 0 ∷ []) ++ second_close)) ≡ refuses 14 0
unfolding any_said any_rows version_rows summary_in trailer_at bad_record any_of total_of number_at word_of from_word
code_100_read = refl
