-- The text that was read so far is a beginning of what the source gives; one more piece keeps this (`next_piece`).
-- At the end of the source, or at the limit, it is all (`came_to_end`, `came_to_limit`).
use Rattle.std.proofs.Common.{◌-◌, take, subst, ◌≡◌, ℕ, ◌+◌, ◌<◌, ◌≤◌, List, [], ◌++◌, length, Option, false, Bool}
use Rattle.std.proofs.Common.{ap, sym, ◌∙◌, arith}
use Rattle.std.specs.Io.KnownBytes.{Consumes}
use Rattle.std.proofs.KnownBytes.{Consumes-nil, Consumes-trans}
use Rattle.std.proofs.lemmas.List.{length-append, length-take-le, append-nil}
use Rattle.std.proofs.Math.Seq.{take-append_seam}
use Rattle.edn.specs.Given.{GivesBytes, WasRead}

-- what was read so far; the buffer has room for this many bytes
pub record IsReading (limit : ℕ) (old now : Option (List ℕ)) (bytes : List ℕ) (room : ℕ) (broken : Bool) : Type 0 where
  pub consumed : Consumes old now bytes
  pub within : length bytes ≤ limit
  pub some : 0 < room
  pub usable : broken ≡ false

-- what is in the buffer are the bytes that were put there
stands_there : (buf behind stored : List ℕ) (len : ℕ) → length buf ≡ len → stored ≡ take len (buf ++ behind)
    → stored ≡ buf
stands_there buf behind stored len l s = s ∙ (ap (λ n. take n (buf ++ behind)) (sym l) ∙ take-append_seam buf behind)

-- one more piece: n bytes were read before it, and it was asked for with room for len
pub next_piece : (limit : ℕ) (old now new : Option (List ℕ)) (bytes whole buf behind stored : List ℕ)
    (n room given len : ℕ) (was broken : Bool) → IsReading limit old now bytes room was
    → n ≡ length bytes → n < limit → len + (room - (limit - n)) ≡ room → length buf ≡ len → given ≤ length buf
    → GivesBytes now new buf given → stored ≡ take len (buf ++ behind)
    → whole ≡ bytes ++ take given stored → broken ≡ false → IsReading limit old new whole len broken
next_piece limit old now new bytes whole buf behind stored n room given len was broken h is below cut long within
    gave at joined usable =
    let same = stands_there buf behind stored len long at in
    let reads : whole ≡ bytes ++ take given buf = joined ∙ ap (λ xs. bytes ++ take given xs) same in
    let size : length whole ≡ length bytes + given = ap length reads
    ∙ (length-append bytes (take given buf) ∙ ap (λ k. length bytes + k) (length-take-le given buf within)) in
    record {
      consumed = subst (Consumes old new) (sym reads)
          (Consumes-trans old now new bytes (take given buf) h.consumed gave.consumed);
      within = (let r = h.some in omega arith);
      some = (let r = h.some in omega arith);
      usable = usable;
    }

-- the source is at its end
pub came_to_end : (limit : ℕ) (old now new : Option (List ℕ)) (bytes buf : List ℕ) (n room given len : ℕ)
    (was : Bool) → IsReading limit old now bytes room was
    → n ≡ length bytes → n < limit → len + (room - (limit - n)) ≡ room → length buf ≡ len → given ≡ 0
    → GivesBytes now new buf given → WasRead limit old new bytes
came_to_end limit old now new bytes buf n room given len was h is below cut long none gave =
    record {
      consumed = subst (Consumes old new) (append-nil bytes)
          (Consumes-trans old now new bytes [] h.consumed
          (subst (λ k. Consumes now new (take k buf)) none gave.consumed));
      within = h.within;
      whole = λ l. gave.ended none (let r = h.some in omega arith);
    }

-- the limit is reached
pub came_to_limit : (limit : ℕ) (old now : Option (List ℕ)) (bytes : List ℕ) (n room : ℕ) (was : Bool)
    → IsReading limit old now bytes room was
    → n ≡ length bytes → limit ≤ n → WasRead limit old now bytes
came_to_limit limit old now bytes n room was h is full = record
    { consumed = h.consumed; within = h.within; whole = λ l. absurd (omega arith) }

pub begins : (limit : ℕ) (o : Option (List ℕ)) (bytes : List ℕ) (room : ℕ) (broken : Bool) → bytes ≡ [] → 0 < room
    → broken ≡ false → IsReading limit o o bytes room broken
begins limit o bytes room broken is some usable = record {
  consumed = subst (Consumes o o) (sym is) (Consumes-nil o);
  within = subst (λ xs. length xs ≤ limit) (sym is) (omega arith);
  some = some;
  usable = usable;
}
