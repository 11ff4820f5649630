-- Where kinds stand in a list.
use Rattle.std.proofs.Common.{◌≡◌, ℕ, suc, ◌+◌, ◌<◌, ◌≤◌, Bool, true, false, cond, List, [], ◌∷◌, length, refl, sym, ap, ◌∙◌, arith, drop, get_or}
use Rattle.std.proofs.lemmas.List.{drop_more}
use Rattle.code_form.specs.declared.form.Kind.{Kind}
use Rattle.code_form.specs.Code.{same_kind}
use Rattle.lower_tables.specs.Kinds.{position}

step : (k j : Kind) (js : List Kind) (b : Bool) → same_kind k j ≡ b → position k (j ∷ js) ≡ cond b 0 (suc (position k js))
step k j js b e = ap (λ c. cond c 0 (suc (position k js))) e

-- the list from an item on
at_item : (k j : Kind) (js : List Kind) (i : ℕ) (b : Bool) → i < length js → j ≡ get_or js i j → same_kind k j ≡ b → position k (drop i js) ≡ cond b 0 (suc (position k (drop (i + 1) js)))
at_item k j js i b h is e = ap (position k) (drop_more js i j h) ∙ ap (λ x. position k (x ∷ drop (i + 1) js)) (sym is) ∙ step k j (drop (i + 1) js) b e

pub position_here : (k j : Kind) (js : List Kind) (i : ℕ) → i < length js → j ≡ get_or js i j → true ≡ same_kind k j → position k js ≡ i + position k (drop i js) → i ≡ position k js
position_here k j js i h is e so = omega (arith, at_item k j js i true h is (sym e))

pub position_behind : (k j : Kind) (js : List Kind) (i : ℕ) → i < length js → j ≡ get_or js i j → false ≡ same_kind k j → position k js ≡ i + position k (drop i js) → position k js ≡ (i + 1) + position k (drop (i + 1) js)
position_behind k j js i h is e so = omega (arith, at_item k j js i false h is (sym e))

within_at : (k j : Kind) (js : List Kind) (b : Bool) → same_kind k j ≡ b → position k js ≤ length js → position k (j ∷ js) ≤ suc (length js)
within_at k j js true e h = omega (arith, step k j js true e)
within_at k j js false e h = omega (arith, step k j js false e)

pub position_within : (k : Kind) (js : List Kind) → position k js ≤ length js
position_within k [] = omega arith
position_within k (j ∷ js) = within_at k j js (same_kind k j) refl (position_within k js)
