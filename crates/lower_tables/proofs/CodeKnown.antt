-- Lists of kinds that have learned all types of a program have all that it needs.
use Rattle.std.proofs.Common.{◌≡◌, refl, ap, ◌∙◌, sym, subst, arith, Bool, true, false, cond, nat_lt, List, [], ◌∷◌, ◌++◌, ℕ, suc, ◌+◌, ◌<◌, length, append_assoc, length-append}
use Rattle.std.proofs.lemmas.Bool.Decides.{nat_tests}
use Rattle.c0_typed.specs.Trees as t
use Rattle.c0_typed.specs.declared.tree.Expression.{Expression, Row_of-Expression, end_of-Expression, more_of-Expression, At', Constant, Null, Local, Unary', Binary', Compare', And', Or', Choose', Call', Print', Load', Alloc, AllocArray', Length'}
use Rattle.c0_typed.specs.declared.tree.Place.{Place, Deref', Index', Field'}
use Rattle.c0_typed.specs.declared.tree.Statement.{Statement, Row_of-Statement, end_of-Statement, more_of-Statement, Block', Set, Update, Store, StoreUpdate, Do, If', Loop', Return, ReturnValue, Break, Continue, Assert, Error, Check}
use Rattle.c0_typed.specs.declared.tree.Function.{Function}
use Rattle.code_form.specs.declared.form.Kind.{Kind}
use Rattle.code_form.specs.declared.form.Kind.TheVariants as kind
use Rattle.code_form.specs.Code.{same_kind}
use Rattle.lower_tables.specs.Kinds.{layout_number, position, single_layout}
use Rattle.lower_tables.specs.Known.{IsKnown, Knows, KnowsRow, KnowsPlace, KnowsAll, KnowsStatement, KnowsBlock, KnowsBody, KnowsFunction, KnowsFunctions}
use Rattle.lower_tables.specs.Gathered.{all_learned, learned, types_at, types_in, types_in_all, types_in_row, types_of, types_of_all, types_of_block, types_of_function, types_of_functions, with_kind}
use Rattle.lower_tables.proofs.Positions.{same_kind_refl, single_there}

abbrev Has : Kind → List Kind → Type 0
Has k singles = position k singles < length singles

-- one list goes on behind another
abbrev pub Extends : List Kind → List Kind → Type 0
Extends singles later = (rest : List Kind) × (later ≡ singles ++ rest)

extends_after : (a b d : List Kind) → Extends a b → Extends b d → Extends a d
extends_after a b d x y = (x.0 ++ y.0, y.1 ∙ ap (λ l. l ++ y.0) x.1 ∙ append_assoc a x.0 y.0)

step : (k j : Kind) (js : List Kind) (b : Bool) → same_kind k j ≡ b → position k (j ∷ js) ≡ cond b 0 (suc (position k js))
step k j js b e = ap (λ c. cond c 0 (suc (position k js))) e

kept_at : (k j : Kind) (js rest : List Kind) (b : Bool) → same_kind k j ≡ b → (Has k js → position k (js ++ rest) ≡ position k js) → Has k (j ∷ js) → position k (j ∷ (js ++ rest)) ≡ position k (j ∷ js)
kept_at k j js rest true e more h = step k j (js ++ rest) true e ∙ sym (step k j js true e)
kept_at k j js rest false e more h = step k j (js ++ rest) false e ∙ ap suc (more (omega (arith, step k j js false e))) ∙ sym (step k j js false e)

pub position_kept : (k : Kind) (js rest : List Kind) → Has k js → position k (js ++ rest) ≡ position k js
position_kept k [] rest h = absurd (let q : ⊥ = omega arith in q)
position_kept k (j ∷ js) rest h = kept_at k j js rest (same_kind k j) refl (position_kept k js rest) h

end_at : (k j : Kind) (js : List Kind) (b : Bool) → same_kind k j ≡ b → position k (js ++ k ∷ []) < suc (length js) → position k (j ∷ (js ++ k ∷ [])) < suc (suc (length js))
end_at k j js true e h = omega (arith, step k j (js ++ k ∷ []) true e)
end_at k j js false e h = omega (arith, step k j (js ++ k ∷ []) false e)

position_end : (k : Kind) (js : List Kind) → position k (js ++ k ∷ []) < suc (length js)
position_end k [] = omega (arith, step k k [] true (same_kind_refl k))
position_end k (j ∷ js) = end_at k j js (same_kind k j) refl (position_end k js)

has_kept : (k : Kind) (singles later : List Kind) → Extends singles later → Has k singles → Has k later
has_kept k singles later x h =
    let same : position k later ≡ position k singles = ap (position k) x.1 ∙ position_kept k singles x.0 h in
    let long : length later ≡ length singles + length x.0 = ap length x.1 ∙ length-append singles x.0 in
    omega (arith, same, long, h)

same_kept : (k : Kind) (singles later : List Kind) → Extends singles later → Has k singles → position k later ≡ position k singles
same_kept k singles later x h = ap (position k) x.1 ∙ position_kept k singles x.0 h

with_at : (k : Kind) (singles : List Kind) (b : Bool) → nat_lt (position k singles) (length singles) ≡ b → Has k (cond b singles (singles ++ k ∷ []))
with_at k singles true e = grind (arith, nat_tests)
with_at k singles false e = omega (arith, position_end k singles, length-append singles (k ∷ []))

with_kind_has : (k : Kind) (singles : List Kind) → Has k (with_kind k singles)
with_kind_has k singles = with_at k singles (nat_lt (position k singles) (length singles)) refl

nothing_more : (singles : List Kind) → singles ≡ singles ++ []
nothing_more [] = refl
nothing_more (j ∷ js) = ap (λ l. j ∷ l) (nothing_more js)

grows_at : (k : Kind) (singles : List Kind) (b : Bool) → Extends singles (cond b singles (singles ++ k ∷ []))
grows_at k singles true = ([], nothing_more singles)
grows_at k singles false = (k ∷ [], refl)

with_kind_grows : (k : Kind) (singles : List Kind) → Extends singles (with_kind k singles)
with_kind_grows k singles = grows_at k singles (nat_lt (position k singles) (length singles))

module _ (n : ℕ) where
  learned_grows : (singles : List Kind) (ty : t.Ty) → Extends singles (learned n singles ty)
  learned_grows singles t.VoidTy = ([], nothing_more singles)
  learned_grows singles (t.StructTy j) = ([], nothing_more singles)
  learned_grows singles t.IntTy = with_kind_grows kind.Int singles
  learned_grows singles t.BoolTy = with_kind_grows kind.Bool singles
  learned_grows singles t.CharTy = with_kind_grows kind.Char singles
  learned_grows singles t.TextTy = with_kind_grows kind.Text singles
  learned_grows singles (t.PointerTy ty) = extends_after singles (learned n singles ty) _ (learned_grows singles ty) (with_kind_grows (kind.Ptr (layout_number n (learned n singles ty) ty)) (learned n singles ty))
  learned_grows singles (t.ArrayTy ty) = extends_after singles (learned n singles ty) _ (learned_grows singles ty) (with_kind_grows (kind.Arr (layout_number n (learned n singles ty) ty)) (learned n singles ty))

  -- the list has the kinds of a type and of all that it refers to
  abbrev Settled : List Kind → t.Ty → Type 0
  Settled singles t.VoidTy = Unit {0}
  Settled singles (t.StructTy j) = Unit {0}
  Settled singles t.IntTy = Has kind.Int singles
  Settled singles t.BoolTy = Has kind.Bool singles
  Settled singles t.CharTy = Has kind.Char singles
  Settled singles t.TextTy = Has kind.Text singles
  Settled singles (t.PointerTy ty) = Settled singles ty × Has (kind.Ptr (layout_number n singles ty)) singles
  Settled singles (t.ArrayTy ty) = Settled singles ty × Has (kind.Arr (layout_number n singles ty)) singles

  same_single : (k : Kind) (singles later : List Kind) → Extends singles later → Has k singles → single_layout n later k ≡ single_layout n singles k
  same_single k singles later x h =
      single_there n later k (has_kept k singles later x h) ∙ ap (λ p. suc (n + p)) (same_kept k singles later x h) ∙ sym (single_there n singles k h)

  same_number : (singles later : List Kind) (ty : t.Ty) → Extends singles later → Settled singles ty → layout_number n later ty ≡ layout_number n singles ty
  same_number singles later t.VoidTy x s = refl
  same_number singles later (t.StructTy j) x s = refl
  same_number singles later t.IntTy x s = same_single kind.Int singles later x s
  same_number singles later t.BoolTy x s = same_single kind.Bool singles later x s
  same_number singles later t.CharTy x s = same_single kind.Char singles later x s
  same_number singles later t.TextTy x s = same_single kind.Text singles later x s
  same_number singles later (t.PointerTy ty) x s =
      ap (λ k. single_layout n later (kind.Ptr k)) (same_number singles later ty x s.0) ∙ same_single (kind.Ptr (layout_number n singles ty)) singles later x s.1
  same_number singles later (t.ArrayTy ty) x s =
      ap (λ k. single_layout n later (kind.Arr k)) (same_number singles later ty x s.0) ∙ same_single (kind.Arr (layout_number n singles ty)) singles later x s.1

  settled_kept : (singles later : List Kind) (ty : t.Ty) → Extends singles later → Settled singles ty → Settled later ty
  settled_kept singles later t.VoidTy x s = tt
  settled_kept singles later (t.StructTy j) x s = tt
  settled_kept singles later t.IntTy x s = has_kept kind.Int singles later x s
  settled_kept singles later t.BoolTy x s = has_kept kind.Bool singles later x s
  settled_kept singles later t.CharTy x s = has_kept kind.Char singles later x s
  settled_kept singles later t.TextTy x s = has_kept kind.Text singles later x s
  settled_kept singles later (t.PointerTy ty) x s =
      (settled_kept singles later ty x s.0, subst (λ k. Has (kind.Ptr k) later) (sym (same_number singles later ty x s.0)) (has_kept (kind.Ptr (layout_number n singles ty)) singles later x s.1))
  settled_kept singles later (t.ArrayTy ty) x s =
      (settled_kept singles later ty x s.0, subst (λ k. Has (kind.Arr k) later) (sym (same_number singles later ty x s.0)) (has_kept (kind.Arr (layout_number n singles ty)) singles later x s.1))

  learned_settled : (singles : List Kind) (ty : t.Ty) → Settled (learned n singles ty) ty
  learned_settled singles t.VoidTy = tt
  learned_settled singles (t.StructTy j) = tt
  learned_settled singles t.IntTy = with_kind_has kind.Int singles
  learned_settled singles t.BoolTy = with_kind_has kind.Bool singles
  learned_settled singles t.CharTy = with_kind_has kind.Char singles
  learned_settled singles t.TextTy = with_kind_has kind.Text singles
  learned_settled singles (t.PointerTy ty) =
      let inner = learned n singles ty in
      let k = layout_number n inner ty in
      let x = with_kind_grows (kind.Ptr k) inner in
      let s = learned_settled singles ty in
      (settled_kept inner (with_kind (kind.Ptr k) inner) ty x s, subst (λ j. Has (kind.Ptr j) (with_kind (kind.Ptr k) inner)) (sym (same_number inner (with_kind (kind.Ptr k) inner) ty x s)) (with_kind_has (kind.Ptr k) inner))
  learned_settled singles (t.ArrayTy ty) =
      let inner = learned n singles ty in
      let k = layout_number n inner ty in
      let x = with_kind_grows (kind.Arr k) inner in
      let s = learned_settled singles ty in
      (settled_kept inner (with_kind (kind.Arr k) inner) ty x s, subst (λ j. Has (kind.Arr j) (with_kind (kind.Arr k) inner)) (sym (same_number inner (with_kind (kind.Arr k) inner) ty x s)) (with_kind_has (kind.Arr k) inner))

  -- one kind more changes no layout of a type that was learned
  pub number_kept : (singles : List Kind) (ty : t.Ty) (k : Kind) → layout_number n (with_kind k (learned n singles ty)) ty ≡ layout_number n (learned n singles ty) ty
  number_kept singles ty k = same_number (learned n singles ty) (with_kind k (learned n singles ty)) ty (with_kind_grows k (learned n singles ty)) (learned_settled singles ty)

  settled_known : (singles : List Kind) (ty : t.Ty) → Settled singles ty → IsKnown n singles ty
  settled_known singles t.VoidTy s h = absurd h
  settled_known singles (t.StructTy j) s h = absurd h
  settled_known singles t.IntTy s h = s
  settled_known singles t.BoolTy s h = s
  settled_known singles t.CharTy s h = s
  settled_known singles t.TextTy s h = s
  settled_known singles (t.PointerTy ty) s h = s.1
  settled_known singles (t.ArrayTy ty) s h = s.1

  -- each of these types is known
  abbrev pub AllKnown : List Kind → List t.Ty → Type 0
  AllKnown singles [] = Unit {0}
  AllKnown singles (ty ∷ rest) = IsKnown n singles ty × AllKnown singles rest

  all_learned_grows : (singles : List Kind) (ts : List t.Ty) → Extends singles (all_learned n singles ts)
  all_learned_grows singles [] = ([], nothing_more singles)
  all_learned_grows singles (ty ∷ rest) = extends_after singles (learned n singles ty) _ (learned_grows singles ty) (all_learned_grows (learned n singles ty) rest)

  pub all_known : (singles : List Kind) (ts : List t.Ty) → AllKnown (all_learned n singles ts) ts
  all_known singles [] = tt
  all_known singles (ty ∷ rest) =
      let first = learned n singles ty in
      (settled_known (all_learned n first rest) ty (settled_kept first (all_learned n first rest) ty (all_learned_grows first rest) (learned_settled singles ty)), all_known first rest)

module _ (n : ℕ) (s : List Kind) where
  both : (ts us : List t.Ty) → AllKnown n s (ts ++ us) → AllKnown n s ts × AllKnown n s us
  both [] us h = (tt, h)
  both (ty ∷ ts) us h = let rest = both ts us h.1 in ((h.0, rest.0), rest.1)

  mutual
    knows : (e : Expression) → AllKnown n s (types_in e) → Knows n s e
    knows (At' here q e) h = knows e h
    knows (Constant x) h = tt
    knows (Null ty) h = tt
    knows (Local x) h = tt
    knows (Unary' p q a) h = knows a h
    knows (Binary' p q a r b) h = let z = both (types_in a) (types_in b) h in (knows a z.0, knows b z.1)
    knows (Compare' ty p q a r b) h = let z = both (types_in a) (types_in b) h in (knows a z.0, knows b z.1)
    knows (And' p a q b) h = let z = both (types_in a) (types_in b) h in (knows a z.0, knows b z.1)
    knows (Or' p a q b) h = let z = both (types_in a) (types_in b) h in (knows a z.0, knows b z.1)
    knows (Choose' ty p a q b r e) h = let z = both (types_in a) (types_in b ++ types_in e) h in let y = both (types_in b) (types_in e) z.1 in (knows a z.0, knows b y.0, knows e y.1)
    knows (Call' f shape es) h = knows_row es h
    knows (Print' out shape es) h = knows_row es h
    knows (Load' ty p q) h = knows_place q h
    knows (Alloc ty) h = h.0
    knows (AllocArray' ty p a) h = (h.0, knows a h.1)
    knows (Length' ty p a) h = knows a h

    knows_row : {k : _} (es : Row_of-Expression k) → AllKnown n s (types_in_row es) → KnowsRow n s es
    knows_row end_of-Expression h = tt
    knows_row (more_of-Expression a rest) h = let z = both (types_in a) (types_in_row rest) h in (knows a z.0, knows_row rest z.1)

    knows_place : (q : Place) → AllKnown n s (types_at q) → KnowsPlace n s q
    knows_place (Deref' ty p a) h = (h.0, knows a h.1)
    knows_place (Index' ty p a q i) h = let z = both (types_in a) (types_in i) h.1 in (h.0, knows a z.0, knows i z.1)
    knows_place (Field' j p q k) h = knows_place q h

  knows_all : (es : List Expression) → AllKnown n s (types_in_all es) → KnowsAll n s es
  knows_all [] h = tt
  knows_all (a ∷ rest) h = let z = both (types_in a) (types_in_all rest) h in (knows a z.0, knows_all rest z.1)

  mutual
    knows_statement : (a : Statement) → AllKnown n s (types_of a) → KnowsStatement n s a
    knows_statement (Block' shape all) h = knows_block all h
    knows_statement (Set x a) h = knows a h
    knows_statement (Update x p a) h = knows a h
    knows_statement (Store q a) h = let z = both (types_at q) (types_in a) h in (knows_place q z.0, knows a z.1)
    knows_statement (StoreUpdate q p a) h = let z = both (types_at q) (types_in a) h in (knows_place q z.0, knows a z.1)
    knows_statement (Do a) h = knows a h
    knows_statement (If' a p b q r) h = let z = both (types_in a) (types_of b ++ types_of r) h in let y = both (types_of b) (types_of r) z.1 in (knows a z.0, knows_statement b y.0, knows_statement r y.1)
    knows_statement (Loop' invariants a p body q step) h =
        let z = both (types_in_all invariants.items) (types_in a ++ (types_of body ++ types_of step)) h in
        let y = both (types_in a) (types_of body ++ types_of step) z.1 in
        let x = both (types_of body) (types_of step) y.1 in
        (knows_all invariants.items z.0, knows a y.0, knows_statement body x.0, knows_statement step x.1)
    knows_statement Return h = tt
    knows_statement Break h = tt
    knows_statement Continue h = tt
    knows_statement (ReturnValue a) h = knows a h
    knows_statement (Assert a) h = knows a h
    knows_statement (Error a) h = knows a h
    knows_statement (Check es) h = knows_all es.items h

    knows_block : {k : _} (all : Row_of-Statement k) → AllKnown n s (types_of_block all) → KnowsBlock n s all
    knows_block end_of-Statement h = tt
    knows_block (more_of-Statement a rest) h = let z = both (types_of a) (types_of_block rest) h in (knows_statement a z.0, knows_block rest z.1)

  knows_body : (all : List Statement) → AllKnown n s (types_of_all all) → KnowsBody n s all
  knows_body [] h = tt
  knows_body (a ∷ rest) h = let z = both (types_of a) (types_of_all rest) h in (knows_statement a z.0, knows_body rest z.1)

  knows_function : (f : Function) → AllKnown n s (types_of_function f) → KnowsFunction n s f
  knows_function f h =
      let z = both (types_in_all f.preconditions.items) (types_of_all f.body.items ++ types_in_all f.postconditions.items) h in
      let y = both (types_of_all f.body.items) (types_in_all f.postconditions.items) z.1 in
      (knows_all f.preconditions.items z.0, knows_body f.body.items y.0, knows_all f.postconditions.items y.1)

  pub knows_functions : (fs : List Function) → AllKnown n s (types_of_functions fs) → KnowsFunctions n s fs
  knows_functions [] h = tt
  knows_functions (f ∷ rest) h = let z = both (types_of_function f) (types_of_functions rest) h in (knows_function f z.0, knows_functions rest z.1)
