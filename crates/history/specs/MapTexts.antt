-- The maps of a piece of a history's text, each with its own bytes.
use Rattle.std.specs.Prelude.{⊤, ◌≡◌, ℕ, ◌+◌, ◌⊎◌, List, [], ◌∷◌, length}
use Rattle.edn_reader.specs.Datum.{Datum}
use Rattle.edn_reader.specs.Elements.{SpellsFront}
use Rattle.edn_reader.specs.Sound.{IsSoundAt}
use Rattle.edn_reader.specs.Spells.{Spells}
use Rattle.history.specs.declared.map_texts.MapText.{MapText}
use Rattle.history.specs.Views.{Says}

-- The fields of the map say what the form says, and its bytes spell the form alone.
pub record IsMapText (m : MapText) (d : Datum) : Type 0 where
  pub says : Says m.said d
  pub spelled : Spells (d ∷ []) m.text.now

-- each map is that of the form in its place
abbrev pub AreMapTexts : List MapText → List Datum → Type 0
AreMapTexts [] [] = ⊤
AreMapTexts (m ∷ ms) (d ∷ ds) = IsMapText m d × AreMapTexts ms ds
AreMapTexts [] (d ∷ ds) = ⊥
AreMapTexts (m ∷ ms) [] = ⊥

-- The piece spells some forms, of which these are the maps.
abbrev pub AreMapsOf : List ℕ → List MapText → Type 0
AreMapsOf piece ms = (ds : List Datum) × Spells ds piece × AreMapTexts ms ds

-- The text begins with some forms, the last of which ends before this byte.
pub record EndsFormsAt (place : ℕ) (text : List ℕ) : Type 0 where
  pub forms : List Datum
  pub rest : List ℕ
  pub front : SpellsFront text forms rest
  pub ends_at : place + length rest ≡ length text

-- Nothing is wrong with the text up to a token at this byte and with it, or up to a form that ends
-- there.
abbrev pub IsSoundUpTo : ℕ → List ℕ → Type 0
IsSoundUpTo place text = IsSoundAt place text ⊎ EndsFormsAt place text
