-- More is read of a source: what was read so far, and what was put into the buffer, are what the source gave.
use Rattle.std.proofs.Common.{◌≡◌, ℕ, List, [], ◌++◌, length, take, Option, ap, sym, ◌∙◌, append_assoc}
use Rattle.std.proofs.lemmas.List.{append-nil}
use Rattle.std.proofs.Math.Seq.{take-append_seam}
use Rattle.std.specs.Io.KnownBytes.{Consumes}
use Rattle.edn.specs.Given.{GivesBytes}
use Rattle.std.proofs.KnownBytes.{Consumes-nil, Consumes-trans}

-- what was read of the source since it had so much left, and how the text has grown by it
pub record IsMore (left left_after : Option (List ℕ)) (text text_after : List ℕ) : Type 0 where
  pub more : List ℕ
  pub consumed : Consumes left left_after more
  pub grown : text_after ≡ text ++ more

pub no_more : (left : Option (List ℕ)) (text : List ℕ) → IsMore left left text text
no_more left text = record { more = []; consumed = Consumes-nil left; grown = sym (append-nil text) }

-- what is stored in the buffer are the bytes that were put there
pub some_more : {left now left_after : Option (List ℕ)} {text mid buf : List ℕ} {given : ℕ}
    (text_after behind stored : List ℕ) (len : ℕ) → IsMore left now text mid → length buf ≡ len
    → stored ≡ take len (buf ++ behind) → GivesBytes now left_after buf given → text_after ≡ mid ++ take given stored
    → IsMore left left_after text text_after
some_more {left} {now} {left_after} {text} {mid} {buf} {given} text_after behind stored len h long at gave joined =
    let same : stored ≡ buf = rw (at, ← long) (take-append_seam buf behind) in
    record {
      more = h.more ++ take given buf;
      consumed = Consumes-trans left now left_after h.more (take given buf) h.consumed gave.consumed;
      grown = joined ∙ rw same (ap (λ xs. xs ++ take given buf) h.grown ∙ append_assoc text h.more (take given buf));
    }

-- the source came to its end
pub came_to_end : {left now left_after : Option (List ℕ)} {text mid buf : List ℕ} {given : ℕ} → IsMore left now text mid
    → GivesBytes now left_after buf given → given ≡ 0 → IsMore left left_after text mid
came_to_end {left} {now} {left_after} h gave none = record {
  more = h.more;
  consumed = rw (append-nil h.more) at
      (Consumes-trans left now left_after h.more [] h.consumed (rw none at gave.consumed));
  grown = h.grown;
}
