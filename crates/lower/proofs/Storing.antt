-- Stores, plain and with an operator.
use Rattle.std.proofs.Common.{Box, Global, ◌≡◌, ◌≢◌, ℕ, zero, suc, ◌+◌, ◌<◌, ◌≤◌, Bool, true, false, List, [], ◌∷◌, ◌++◌, length, Option, Some, None, ℤ, refl, sym, ap, ◌∙◌, subst, arith}
use Rattle.std.specs.Prelude.{slice_get, slice_index, slice_set, map}
use Rattle.std.proofs.lemmas.List.{length-set}
use Rattle.cells.specs.declared.int32.Int32Op.{Int32Op}
use Rattle.cells.specs.Numbers.{op_value}
use Rattle.cells.specs.Stops.{ArithFault}
use Rattle.cells.specs.Outcomes.{Done, Stopped, Cut, then_do}
use Rattle.c0_typed.specs.Values.{Value, Number, Tree, Spot, as_number, load, store}
use Rattle.c0_typed.specs.Trees.{Program, Ty, IntTy, StructTy, PointerTy, ArrayTy}
use Rattle.c0_typed.specs.Meaning.{State, Outcome, Way, Next, binary_value, eval, locate, struct_defaults, value_or}
use Rattle.c0_typed.specs.Typing.{Extends, FitsProgram, FreshSound, Has, Holds, Is, IsPlace, IsSmall, Kept}
use Rattle.c0_typed.specs.Views.{exp_of, place_of, program_of, texts_of, type_of}
use Rattle.c0_typed.proofs.Soundness.{extends_refl, is_more, made_more, number_fits}
use Rattle.c0_typed.specs.declared.tree.Expression.{Expression}
use Rattle.c0_typed.specs.declared.tree.Place.{Place, Deref', Index', Field'}
use Rattle.c0_typed.specs.declared.tree.Typed.{Typed}
use Rattle.code_form.specs.declared.form.Kind.{Kind}
use Rattle.code_form.specs.declared.form.Kind.TheVariants as kind
use Rattle.code_form.specs.declared.form.Operation.TheVariants as op
use Rattle.code_form.specs.Code.{int_of, of_int, offset, op_fits, sets_some}
use Rattle.code_form.specs.Form.{Head}
use Rattle.middle_form.specs.Form.{Code}
use Rattle.middle_form.specs.Form as f
use Rattle.middle_form.specs.Meaning as m
use Rattle.lower.specs.Coded.{Coded, kept_offset}
use Rattle.lower_tables.specs.Kinds as k
use Rattle.lower_tables.specs.Known.{Knows, KnowsPlace}
use Rattle.lower.specs.declared.exits.Exits.{Exits}
use Rattle.lower.specs.Lowered.{lowered}
use Rattle.lower_expressions.specs.Expressions.{sequence, value_at}
use Rattle.lower.proofs.Joint.{Joint, joint_done, joint_then, run_one}
use Rattle.c0_typed.proofs.Ops.{ops_fit}
use Rattle.lower.proofs.Operators.{coded_number}
use Rattle.lower.proofs.Registers.{At, and_true, at_head, at_left, at_right, at_tail, has_it, put_other, put_same}
use Rattle.lower.proofs.Running.{does, going_less, going_set, going_start, going_then, sets_then}
use Rattle.lower.proofs.Sides.{Going, HeapFacts, Valued, joint_valued}
use Rattle.lower.proofs.Values.{LocalsAt, value_apart, value_before, value_kind}
use Rattle.lower.proofs.Arguments.{CallsOk}
use Rattle.lower.proofs.Accesses.{load_runs, store_ok}
use Rattle.lower.proofs.Expressions as e
use Rattle.lower.proofs.Evaluated as v
use Rattle.lower.proofs.Places.{Placed}
use Rattle.lower.proofs.Places as places
use Rattle.lower.proofs.Steps.{Met}

module _ (typed : Typed) (singles : List Kind) (checks : Bool) (call : ℕ → List Value → State → Outcome Value) (call' : ℕ → List ℕ → m.State → m.Outcome ℕ) (types : List Ty) (locals : ℕ) (ks : List Kind)
    (locals_at : LocalsAt typed singles types locals ks) (long_types : length types ≡ suc locals) (fp : FitsProgram (program_of typed)) (fresh : FreshSound) (facts : HeapFacts (program_of typed) singles (lowered singles checks typed).head)
    (calls_ok : CallsOk typed singles checks call call') where
  abbrev p : Program
  p = program_of typed

  abbrev P : f.Program
  P = lowered singles checks typed

  abbrev H : Head
  H = P.head

  abbrev n : ℕ
  n = length p.structs

  abbrev ds : List Tree
  ds = struct_defaults [] p.structs

  abbrev texts : List (List ℕ)
  texts = texts_of typed

  abbrev kinds : Expression → List Kind
  kinds a = e.kinds typed singles checks call call' types locals ks a

  abbrev kinds_place : Place → List Kind
  kinds_place q = v.kinds_place typed singles checks call call' types locals ks locals_at long_types fp fresh facts calls_ok q

  abbrev code : Expression → ℕ → List Code
  code a d = e.code typed singles checks call call' types locals ks a d

  abbrev code_place : Place → ℕ → List Code
  code_place q d = v.code_place typed singles checks call call' types locals ks locals_at long_types fp fresh facts calls_ok q d

  abbrev base : Place → ℕ → ℕ
  base q d = places.base typed singles checks call call' types locals ks q d

  abbrev off : Place → ℕ → Option ℕ
  off q d = places.off typed singles checks call call' types locals ks q d

  abbrev shift : Place → ℕ
  shift q = places.shift typed singles checks call call' types locals ks q

  abbrev Runs : List Code → List ℕ → m.State → m.Outcome m.Left
  Runs cs rs w = m.run P call' ks (sequence cs) rs w

  abbrev Meets : Exits → List ℕ → List Kept → Way → State → m.Left → m.State → Type 0
  Meets out rs made way s x w = Met p H types locals out rs made way s x w

  abbrev Goes : ℕ → List ℕ → List Kept → State → List ℕ → m.State → Type 0
  Goes d rs made s xs w = Going p H types locals d rs made s xs w

  abbrev Finds : Place → Ty → ℕ → List ℕ → List Kept → Spot → State → m.Left → m.State → Type 0
  Finds q u d rs made at s x w = Placed typed singles checks call call' types locals ks q u d rs made at s x w

  -- ---- the registers of a place stand below those of what follows

  base_before : (q : Place) (u : Ty) (d : ℕ) → suc locals ≤ d → Holds p types (place_of texts q) u → base q d < d + length (kinds_place q)
  base_before (Deref' ty r a) u d l h = value_before typed singles types locals ks long_types a (PointerTy (type_of ty)) d l h.1
  base_before (Index' ty r a s i) u d l h =
      let z = value_before typed singles types locals ks long_types a (ArrayTy (type_of ty)) (suc d) (omega arith) h.1 in
      let y : length (kinds a) ≤ length (kinds a ++ kinds i) = more (kinds a) (kinds i) in
      omega (arith, z, y)
    where
      more : (xs ys : List Kind) → length xs ≤ length (xs ++ ys)
      more [] ys = omega arith
      more (x ∷ xs) ys = let l = more xs ys in omega (arith, l)
  base_before (Field' j r q i) u d l h = base_before q (StructTy j) d l h.0

  off_before : (q : Place) (d : ℕ) (o : ℕ) → off q d ≡ Some o → o < d + length (kinds_place q)
  off_before (Deref' ty r a) d o e = absurd (cc e)
  off_before (Index' ty r a s i) d o e = let z : d ≡ o = cc e in omega (arith, z)
  off_before (Field' j r q i) d o e = off_before q d o e

  base_apart : (q : Place) (u : Ty) (d : ℕ) → suc locals ≤ d → Holds p types (place_of texts q) u → base q (suc d) ≢ d
  base_apart (Deref' ty r a) u d l h = value_apart typed singles types locals ks long_types a (PointerTy (type_of ty)) d (suc d) l (omega arith) h.1
  base_apart (Index' ty r a s i) u d l h = value_apart typed singles types locals ks long_types a (ArrayTy (type_of ty)) d (suc (suc d)) l (omega arith) h.1
  base_apart (Field' j r q i) u d l h = base_apart q (StructTy j) d l h.0

  off_apart : (q : Place) (d : ℕ) (o : ℕ) → off q (suc d) ≡ Some o → o ≢ d
  off_apart (Deref' ty r a) d o e = absurd (cc e)
  off_apart (Index' ty r a s i) d o e = let z : suc d ≡ o = cc e in omega (arith, z)
  off_apart (Field' j r q i) d o e = off_apart q d o e

  -- a place that was found stays
  placed_keep : (q : Place) (u : Ty) (d : ℕ) (rs qs xs ys : List ℕ) (made new : List Kept) (at : Spot) (s y : State) (w z : m.State) → Finds q u d rs made at s (0, xs) w → Extends made new → slice_index ys (base q d) ≡ slice_index xs (base q d)
      → ((o : ℕ) → off q d ≡ Some o → slice_index ys o ≡ slice_index xs o) → Goes d qs new y ys z → Finds q u d qs new at y (0, ys) z
  placed_keep q u d rs qs xs ys made new at s y w z h ex same_base same_off g = record {
    falls = refl;
    place = record { kept = h.place.kept; made_so = made_more made new ex at.allocation h.place.kept h.place.made_so; way = h.place.way };
    base_is = same_base ∙ h.base_is;
    cell = ap (λ o. o + shift q) (same (off q d) same_off) ∙ h.cell;
    inner = h.inner;
    layout = h.layout;
    fits = h.fits;
    known = h.known;
    going = g;
  }
    where
      same : (x : Option ℕ) → ((o : ℕ) → x ≡ Some o → slice_index ys o ≡ slice_index xs o) → offset ys x ≡ offset xs x
      same None f = refl
      same (Some o) f = f o refl

  -- a store, at last
  keep_ok : (q : Place) (u : Ty) (d : ℕ) (out : Exits) (ra : ℕ) (rs qs xs : List ℕ) (v : Value) (made : List Kept) (at : Spot) (s : State) (w : m.State) → length qs ≡ length rs → IsSmall u → slice_get ks ra ≡ Some (k.kind_of n singles u)
      → Finds q u d qs made at s (0, xs) w → Is p made u v → Coded H v (slice_index xs ra)
      → Joint made (Meets out rs) (Done Next (record s { heap = store s.heap at v })) (Runs (f.Store (base q d) (off q d) (shift q) ra ∷ []) xs w)
  keep_ok q u d out ra rs qs xs v made at s w same small ka h i c =
      let st = store_ok typed singles checks call call' types locals ks facts q u d ra qs xs v made at s w small ka h i c in
      let g = st.2 in
      subst (λ o. Joint made (Meets out rs) (Done Next (record s { heap = store s.heap at v })) o) (sym (run_one P call' ks (f.Store (base q d) (off q d) (shift q) ra) xs w ∙ st.1))
      (joint_done made (Meets out rs) Next (record s { heap = store s.heap at v }) (0, xs) st.0
      (record { flow = refl; going = record { state = g.state; keeps = λ r l. absurd (let z : ⊥ = omega (arith, l) in z); long = g.long ∙ same; matched = g.matched; alike = g.alike } }))

  abbrev ExpOk : Expression → Type 0
  ExpOk a = e.ExpOk typed singles checks call call' types locals ks a

  abbrev PlaceOk : Place → Type 0
  PlaceOk q = v.PlaceOk typed singles checks call call' types locals ks locals_at long_types fp fresh facts calls_ok q

  pub store_case : (q : Place) (a : Expression) → PlaceOk q → ExpOk a → (t : Ty) (out : Exits) (d : ℕ) (made : List Kept) (s : State) (rs : List ℕ) (w : m.State) → suc locals ≤ d → At ks d (kinds_place q ++ kinds a) → length rs ≡ length ks → KnowsPlace n singles q → Knows n singles a
      → IsSmall t → Holds p types (place_of texts q) t → Has p types (exp_of texts a) t → Goes 0 rs made s rs w
      → Joint made (Meets out rs) (then_do (locate ds call (place_of texts q) s) (λ at y. then_do (eval ds call (exp_of texts a) y) (λ x z. Done Next (record z { heap = store z.heap at x }))))
      (Runs (code_place q d ++ (code a (d + length (kinds_place q)) ++ (f.Store (base q d) (off q d) (shift q) (value_at locals a (d + length (kinds_place q))) ∷ []))) rs w)
  store_case q a ok_q ok_a t out d made s rs w low at long kq ka small holds has g =
      let b : ℕ = d + length (kinds_place q) in
      let at_q = at_left ks d (kinds_place q) (kinds a) at in
      let at_a = at_right ks d (kinds_place q) (kinds a) at in
      let last : List Code = f.Store (base q d) (off q d) (shift q) (value_at locals a b) ∷ [] in
      v.then_place typed singles checks call call' types locals ks locals_at long_types fp fresh facts calls_ok q t d made s rs w (code a b ++ last) (λ at y. then_do (eval ds call (exp_of texts a) y) (λ x z. Done Next (record z { heap = store z.heap at x }))) (Meets out rs)
      (ok_q t d made s rs w low at_q long kq holds (going_start p H types locals 0 d rs rs made s w g)) (λ new x y xs z ex r.
      e.exp_then typed singles checks call call' types locals ks a t b new y xs z last (λ v z. Done Next (record z { heap = store z.heap x v })) (Meets out rs)
      (ok_a t b new y xs z (omega arith) at_a (let g1 = r.going in g1.long ∙ long) ka has (going_start p H types locals d b rs xs new y z r.going)) (λ more x2 y2 ys z2 ex2 i2 c2 g2.
      let g3 = going_then p H types locals d b rs xs ys new more y y2 z z2 (omega arith) r.going g2 in
      keep_ok q t d out (value_at locals a b) rs rs ys x2 more x y2 z2 refl small (value_kind typed singles types locals ks locals_at a t b at_a has)
      (placed_keep q t d rs rs xs ys new more x y y2 z z2 r ex2 (g2.keeps (base q d) (base_before q t d low holds)) (λ o e. g2.keeps o (off_before q d o e)) g3) i2 c2))

  -- a store of an operator's value, at last
  operate_ok : (o : Int32Op) (q : Place) (d b : ℕ) (out : Exits) (ra : ℕ) (rs qs xs : List ℕ) (old v : Value) (made : List Kept) (at : Spot) (s : State) (w : m.State) → suc locals ≤ d → d < length qs → length qs ≡ length rs → slice_get ks d ≡ Some kind.Int → slice_get ks ra ≡ Some kind.Int
      → Holds p types (place_of texts q) IntTy → Finds q IntTy (suc d) qs made at s (0, xs) w → Is p made IntTy old → Coded H old (slice_index xs d) → Is p made IntTy v → Coded H v (slice_index xs ra)
      → Joint made (Meets out rs) (then_do (value_or ArithFault (binary_value o old v) s) (λ x z. Done Next (record z { heap = store z.heap at x }))) (Runs (f.Do (op.Binary o d d ra) ∷ (f.Store (base q (suc d)) (off q (suc d)) (shift q) d ∷ [])) xs w)
  operate_ok o q d b out ra rs qs xs old v made at s w low sh long kd ka holds h io co i c = by (op_value o (as_number old) (as_number v)) refl
    where
      fits : op_fits H ks (op.Binary o d d ra) ≡ true
      fits = and_true _ _ (has_it ks d kind.Int kd) (and_true _ _ (has_it ks d kind.Int kd) (has_it ks ra kind.Int ka))

      same : op_value o (int_of (slice_index xs d)) (int_of (slice_index xs ra)) ≡ op_value o (as_number old) (as_number v)
      same = ap (λ z. op_value o z (int_of (slice_index xs ra))) (coded_number H p made old (slice_index xs d) io co) ∙ ap (λ z. op_value o (as_number old) z) (coded_number H p made v (slice_index xs ra) i c)

      last : List Code
      last = f.Store (base q (suc d)) (off q (suc d)) (shift q) d ∷ []

      by : (z : Option ℤ) → op_value o (as_number old) (as_number v) ≡ z
          → Joint made (Meets out rs) (then_do (value_or ArithFault (elim z [ None ↦ None | Some y ↦ Some (Number y) ]) s) (λ x z. Done Next (record z { heap = store z.heap at x }))) (Runs (f.Do (op.Binary o d d ra) ∷ last) xs w)
      by None e =
          ap (λ z. m.then_do z (m.falls (m.run P call' ks (sequence last)))) (does P call' ks (op.Binary o d d ra) xs w fits ∙ ap (λ z. m.operated (sets_some d z) xs w) (same ∙ e))
          ∙ ap (m.Stopped ArithFault) (let g = h.going in sym g.alike.output)
      by (Some z) e =
          let zs : List ℕ = slice_set xs d (of_int z) in
          let g = h.going in
          subst (λ y. Joint made (Meets out rs) (Done Next (record s { heap = store s.heap at (Number z) })) y)
          (sym (sets_then P call' ks (op.Binary o d d ra) last xs w d (of_int z) fits (ap (sets_some d) (same ∙ e))))
          (keep_ok q IntTy (suc d) out d rs zs zs (Number z) made at s w (length-set xs d (of_int z) ∙ g.long ∙ long) tt kd
          (placed_keep q IntTy (suc d) qs zs xs zs made made at s s w w h (extends_refl made) (put_other xs d (of_int z) (base q (suc d)) (base_apart q IntTy d low holds)) (λ j e. put_other xs d (of_int z) j (off_apart q d j e))
          (going_start p H types locals d (suc d) qs zs made s w (going_set p H types locals d (suc d) qs xs (of_int z) made s w low (omega arith) g)))
          (z, refl, ops_fit o (as_number old) (as_number v) z (number_fits p made old io) (number_fits p made v i) e)
          (put_same xs d (of_int z) (subst (λ y. d < y) (sym g.long) sh)))

  pub store_update_case : (o : Int32Op) (q : Place) (a : Expression) → PlaceOk q → ExpOk a → (out : Exits) (d : ℕ) (made : List Kept) (s : State) (rs : List ℕ) (w : m.State) → suc locals ≤ d → At ks d (kind.Int ∷ (kinds_place q ++ kinds a)) → length rs ≡ length ks → KnowsPlace n singles q → Knows n singles a
      → Holds p types (place_of texts q) IntTy → Has p types (exp_of texts a) IntTy → Goes 0 rs made s rs w
      → Joint made (Meets out rs) (then_do (locate ds call (place_of texts q) s) (λ at y. then_do (eval ds call (exp_of texts a) y) (λ x z. then_do (value_or ArithFault (binary_value o (load y.heap at) x) z) (λ u x. Done Next (record x { heap = store x.heap at u })))))
      (Runs (code_place q (suc d) ++ (f.Load d (base q (suc d)) (off q (suc d)) (shift q) ∷ (code a (suc d + length (kinds_place q)) ++ (f.Do (op.Binary o d d (value_at locals a (suc d + length (kinds_place q)))) ∷ (f.Store (base q (suc d)) (off q (suc d)) (shift q) d ∷ []))))) rs w)
  store_update_case o q a ok_q ok_a out d made s rs w low at long kq ka holds has g =
      let b : ℕ = suc d + length (kinds_place q) in
      let after = at_tail ks d kind.Int (kinds_place q ++ kinds a) at in
      let at_q = at_left ks (suc d) (kinds_place q) (kinds a) after in
      let at_a = at_right ks (suc d) (kinds_place q) (kinds a) after in
      let kd = at_head ks d kind.Int (kinds_place q ++ kinds a) at in
      let sh = e.short typed singles checks call call' types locals ks d kind.Int (kinds_place q ++ kinds a) rs at long in
      let last : List Code = f.Do (op.Binary o d d (value_at locals a b)) ∷ (f.Store (base q (suc d)) (off q (suc d)) (shift q) d ∷ []) in
      let loads : Code = f.Load d (base q (suc d)) (off q (suc d)) (shift q) in
      v.then_place typed singles checks call call' types locals ks locals_at long_types fp fresh facts calls_ok q IntTy (suc d) made s rs w (loads ∷ (code a b ++ last)) (λ at y. then_do (eval ds call (exp_of texts a) y) (λ x z. then_do (value_or ArithFault (binary_value o (load y.heap at) x) z) (λ u x. Done Next (record x { heap = store x.heap at u })))) (Meets out rs)
      (ok_q IntTy (suc d) made s rs w (omega arith) at_q long kq holds (going_start p H types locals 0 (suc d) rs rs made s w g)) (λ new x y xs z ex r.
      let ld = load_runs typed singles checks call call' types locals ks facts q IntTy (suc d) d rs xs new x y z tt kd r in
      let g1 = r.going in
      let zs : List ℕ = slice_set xs d ld.0 in
      let same : length zs ≡ length rs = length-set xs d ld.0 ∙ g1.long in
      let g2 : Goes d rs new y zs z = going_set p H types locals d (suc d) rs xs ld.0 new y z low (omega arith) g1 in
      let r2 : Finds q IntTy (suc d) zs new x y (0, zs) z = placed_keep q IntTy (suc d) rs zs xs zs new new x y y z z r (extends_refl new) (put_other xs d ld.0 (base q (suc d)) (base_apart q IntTy d low holds)) (λ j e. put_other xs d ld.0 j (off_apart q d j e)) (going_start p H types locals d (suc d) rs zs new y z g2) in
      subst (λ i. Joint new (Meets out rs) (then_do (eval ds call (exp_of texts a) y) (λ v z. then_do (value_or ArithFault (binary_value o (load y.heap x) v) z) (λ u j. Done Next (record j { heap = store j.heap x u })))) i)
      (sym (ap (λ i. m.then_do i (m.falls (m.run P call' ks (sequence (code a b ++ last))))) ld.1))
      (e.exp_then typed singles checks call call' types locals ks a IntTy b new y zs z last (λ v z. then_do (value_or ArithFault (binary_value o (load y.heap x) v) z) (λ u j. Done Next (record j { heap = store j.heap x u }))) (Meets out rs)
      (ok_a IntTy b new y zs z (omega arith) at_a (same ∙ long) ka has (going_start p H types locals d b rs zs new y z g2)) (λ more x2 y2 ys z2 ex2 i2 c2 g3.
      let d_low : d < b = omega arith in
      operate_ok o q d 0 out (value_at locals a b) rs zs ys (load y.heap x) x2 more x y2 z2 low (subst (λ i. d < i) (sym same) sh) same kd (value_kind typed singles types locals ks locals_at a IntTy b at_a has) holds
      (placed_keep q IntTy (suc d) zs zs zs ys new more x y y2 z z2 r2 ex2 (g3.keeps (base q (suc d)) (base_before q IntTy (suc d) (omega arith) holds)) (λ j e. g3.keeps j (off_before q (suc d) j e)) (going_less p H types locals (suc d) b zs ys more y2 z2 (omega arith) g3))
      (is_more p new more ex2 IntTy (load y.heap x) ld.3) (subst (Coded H (load y.heap x)) (sym (g3.keeps d d_low ∙ put_same xs d ld.0 (subst (λ i. d < i) (sym g1.long) sh))) ld.2) i2 c2)))
