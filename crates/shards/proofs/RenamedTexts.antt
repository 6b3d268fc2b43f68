-- A text that was written anew and read again: it spells one map of a client, which says what the map says that was
-- given, of an object by another number.
use Rattle.std.proofs.Common.{◌≡◌, ℕ, true, List, [], ◌∷◌, length, get_or, Option, Some, None, refl, ap, ◌∙◌, subst}
use Rattle.std.proofs.Common.{arith, rules}
use Rattle.std.specs.Option.{option_eq}
use denote.Enum.Bare.{same_true}
use Rattle.edn_reader.specs.Datum.{Datum}
use Rattle.edn_reader.specs.Spells.{Spells}
use Rattle.history.specs.Maps.{client_of}
use Rattle.history.specs.MapTexts.{AreMapsOf, AreMapTexts}
use Rattle.history.specs.Views.{IsClient, Says}
use Rattle.history.specs.declared.client_map.ClientMap.{ClientMap}
use Rattle.history.specs.declared.client_map.OperationMap.TheVariants.{OfClient}
use Rattle.history.specs.declared.map_texts.MapText.{MapText}
use Rattle.seq_objects.specs.contracts.function.Function.{the_type}
use Rattle.seq_objects.specs.contracts.function.FunctionPartialEq.TheImpl.{eq-value as function_eq}
use Rattle.seq_objects.specs.contracts.value.ValuePartialEq.TheImpl.{eq-value}
use Rattle.seq_objects.specs.declared.function.Function.{Function}
use Rattle.seq_objects.specs.declared.value.Value.{Value}

-- values that are found equal are the same
values_same : (a b : Value) → eq-value.it a b ≡ true → a ≡ b
values_same a b q = grind arith

pub values_in_same : (a b : Option Value) → option_eq eq-value.it a b ≡ true → a ≡ b
values_in_same a b q = grind (arith, values_same)

-- Functions that are found equal are the same.
pub functions_in_same : (a b : Option Function) → option_eq function_eq.it a b ≡ true → a ≡ b
functions_in_same None None q = refl
functions_in_same (Some f) (Some g) q = ap Some (same_true the_type (search rules) f g q)
functions_in_same a b q = absurd (cc q)

pub same_map : (a b : ClientMap) → a.process ≡ b.process → a.object ≡ b.object → a.map_type ≡ b.map_type
    → a.function ≡ b.function → a.value ≡ b.value → a ≡ b
same_map a b process object type function value = grind arith

abbrev SpellsOne : List ℕ → ClientMap → Type 0
SpellsOne text c = (e : Datum) × Spells (e ∷ []) text × IsClient (Some c) (client_of e)

one_form : (m : MapText) (ds : List Datum) (text : List ℕ) (c : ClientMap) → AreMapTexts (m ∷ []) ds → Spells ds text
    → m.said ≡ OfClient c → SpellsOne text c
one_form m [] text c h spells is = absurd h
one_form m (e ∷ []) text c h spells is = (e, spells, subst (λ s. Says s e) is h.0.says)
one_form m (e ∷ f ∷ ds) text c h spells is = absurd h.1

pub spells_one : (ms : List MapText) (z : MapText) (text : List ℕ) (said c : ClientMap) → AreMapsOf text ms
    → length ms ≡ 1 → (get_or ms 0 z).said ≡ OfClient said → said ≡ c → SpellsOne text c
spells_one [] z text said c h one is same = absurd (omega (arith, one))
spells_one (m ∷ []) z text said c h one is same = one_form m h.0 text c h.2 h.1 (is ∙ ap OfClient same)
spells_one (m ∷ n ∷ ms) z text said c h one is same = absurd (omega (arith, one))
