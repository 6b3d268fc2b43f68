-- A name is ASCII, and so it is UTF-8: a letter and each other byte of a name are below 128, byte by byte.
use Rattle.std.proofs.Common.{◌≡◌, ℕ, ◌<◌, true, List, [], ◌∷◌, arith}
use Rattle.std.specs.Prelude.{◌&&◌, nat_le, length}
use Rattle.std.specs.List.{list_all}
use Rattle.std.specs.Str.{IsUtf8, IsAscii}
use Rattle.std.proofs.lemmas.Bool.{and_parts}
use Rattle.std.proofs.lemmas.Bool.Decides.{nat_tests}
use Rattle.std.proofs.lemmas.Str.{IsUtf8-from_ascii}
use Rattle.std.proofs.lemmas.Str.Ascii.{IsAscii-nil, IsAscii-cons}
use Rattle.edn_reader.specs.Bytes.{is_letter, is_name_byte, is_name}

letter_below : (b : ℕ) → is_letter b ≡ true → b < 128
letter_below b h = grind (arith, nat_tests)

name_byte_below : (b : ℕ) → is_name_byte b ≡ true → b < 128
name_byte_below b h = grind (arith, nat_tests)

name_bytes_ascii : (bs : List ℕ) → list_all is_name_byte bs ≡ true → IsAscii bs
name_bytes_ascii [] h = IsAscii-nil
name_bytes_ascii (b ∷ bs) h =
    let p = and_parts (is_name_byte b) (list_all is_name_byte bs) h in
    IsAscii-cons b bs (name_byte_below b p.0) (name_bytes_ascii bs p.1)

pub name_ascii : (k : List ℕ) → is_name k ≡ true → IsAscii k
unfolding is_name
name_ascii [] h = absurd cc
name_ascii (b ∷ bs) h =
    let p = and_parts (is_letter b && list_all is_name_byte bs) (nat_le (length bs) 63) h in
    let q = and_parts (is_letter b) (list_all is_name_byte bs) p.0 in
    IsAscii-cons b bs (letter_below b q.0) (name_bytes_ascii bs q.1)

pub name_utf8 : (k : List ℕ) → is_name k ≡ true → IsUtf8 k
name_utf8 k h = IsUtf8-from_ascii k (name_ascii k h)
