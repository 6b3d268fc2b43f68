-- `fits` and the functions that it calls: true exactly where the form fits within the depth. Of the entries before
-- the one at hand nothing is wrong; a key that comes again later shows that they do not fit.
use Rattle.std.proofs.Common.{◌≡◌, ℕ, ◌+◌, ◌<◌, List, length, get_or, drop, refl, ap, ◌∙◌, arith}
use Rattle.edn_reader.specs.Datum.{entries_of, EntriesFit}
use Rattle.edn_reader.specs.Reading.{has_key}
use Rattle.edn_reader.specs.View.{pair_views}
use Rattle.edn_reader.specs.declared.form.Name.{Name}
use Rattle.edn_reader.specs.declared.form.Form.{Form}
use Rattle.edn_reader.proofs.Fitting.{key_again, fits_on}
use Rattle.edn_reader.proofs.Pairs.{map_view}
use Rattle.edn_reader.proofs.limits.+fits.Goals as goal

pub entries_fit-returns-then-is_among : goal.entries_fit-returns-then-is_among
entries_fit-returns-then-is_among t c =
    let xs = c.args.entries.now.items in
    let x = c.entry-item.result in
    let lt : c.loop-i.i < length xs = omega (arith, ap length c.deref-entry-items.ensures.value) in
    let is : x ≡ get_or xs c.loop-i.i x =
    c.entry-item.is ∙ ap (λ (ys : List (Name × Form)). get_or ys c.loop-i.i x) c.deref-entry-items.ensures.value in
    let remains : c.split_at.result.1.now ≡ drop (c.loop-i.i + 1) xs =
    c.split_at.ensures.back ∙ ap (drop (c.loop-i.i + 1)) c.deref.ensures.value in (
      λ h. cc,
      λ h. absurd (key_again c.args.depth xs c.split_at.result.1.now c.loop-i.i x lt is remains
          (c.if-is_among.ensures ∙ ap
          (λ (k : List ℕ). has_key k (pair_views c.split_at.result.1.now)) c.as_bytes.ensures.text)
          (c.loop-i.invariant.1 h)),
    )

pub entries_fit-loop-i-preserved : goal.entries_fit-loop-i-preserved
entries_fit-loop-i-preserved t c =
    let xs = c.args.entries.now.items in
    let x = c.entry-item.result in
    let lt : c.loop-i.i < length xs = omega (arith, ap length c.deref-entry-items.ensures.value) in
    let is : x ≡ get_or xs c.loop-i.i x =
    c.entry-item.is ∙ ap (λ (ys : List (Name × Form)). get_or ys c.loop-i.i x) c.deref-entry-items.ensures.value in
    let remains : c.split_at.result.1.now ≡ drop (c.loop-i.i + 1) xs =
    c.split_at.ensures.back ∙ ap (drop (c.loop-i.i + 1)) c.deref.ensures.value in
    fits_on c.args.depth xs c.split_at.result.1.now c.loop-i.i x lt is remains
    (c.if-is_among.ensures ∙ ap
    (λ (k : List ℕ). has_key k (pair_views c.split_at.result.1.now)) c.as_bytes.ensures.text)
    (c.if-not-fits_within.ensures.0 refl) (EntriesFit c.args.depth (entries_of (pair_views xs))) c.loop-i.invariant

pub fits_within-returns-then-depth-gt0-2 : goal.fits_within-returns-then-depth-gt0-2
fits_within-returns-then-depth-gt0-2 t c =
    rw (c.in-Map.is, map_view)
    (λ h. (c.if-depth-gt0-2.true, c.entries_fit.ensures.0 h), λ h. c.entries_fit.ensures.1 h.1)
