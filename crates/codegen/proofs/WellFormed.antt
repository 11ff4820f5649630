-- What is generated of scoped code that keeps the discipline is verified, where the code without its scopes is well formed and checks each place.
use Rattle.std.proofs.Common.{◌≡◌, ◌≤◌, ◌+◌, ℕ, zero, suc, Bool, true, false, cond, inl, inr, Option, Some, None, List, [], ◌∷◌, ◌++◌, length, refl, sym, ap, ◌∙◌, subst, arith, append_assoc, length-append}
use Rattle.std.specs.Prelude.{◌&&◌, ◌<◌, All, is_none, map, nat_lt, slice_get}
use Rattle.std.specs.List.{list_all}
use Rattle.std.specs.Option.{option_map}
use Rattle.std.proofs.lemmas.Bool.{ltb-true}
use Rattle.std.proofs.lemmas.List.Elements.{All-cons, All-head, All-map, All-nil, All-tail, All-weaker}
use Rattle.std.proofs.lemmas.Option.{slice_get-map}
use Rattle.code_form.specs.declared.form.Fact.{Fact}
use Rattle.code_form.specs.declared.form.Fact.TheVariants as fact
use Rattle.code_form.specs.declared.form.Kind.{Kind}
use Rattle.code_form.specs.declared.form.Kind.TheVariants as kind
use Rattle.code_form.specs.Form.{Instruction, Aim, Branch, Jump, Leave, Load, Return, ReturnVoid, Store}
use Rattle.code_form.specs.Form as image
use Rattle.code_form.specs.declared.form.Operation.{Operation}
use Rattle.code_form.specs.Code.{cell_kind, has, most_scopes, needs_shut, on_kind, op_fits, place_fits}
use Rattle.code_form.specs.Effects.{upd}
use Rattle.code_form.specs.Known.{Known, Knows, Unknown, KnownAimed, KnownShut, AreKnown, IsKnown, after_operation, facts_known, forget, with_scope, written_by, wrote, wrote_some}
use Rattle.code_form.specs.Known as known
use Rattle.code_form.specs.Asked.{Enters, IsAimChecked, IsAimedAt, IsChecked, KnowsAllShut, callee_fits}
use Rattle.middle_form.specs.Scoped.{Code, Nothing, Do, LoadBy, StoreBy, Loose, Fail, Then, Choose, Loop, Block, Exit, Function, Program, plain, plain_function, plain_program}
use Rattle.middle_form.specs.Scoped as scoped
use Rattle.middle_form.specs.Discipline.{AreShut, Brings, IsDisciplined, IsKnownAs, IsScoped, IsScopedFunction, Table, after, at_entry, is_lost, join, stays}
use Rattle.middle_form.specs.Discipline as table
use Rattle.middle_form.specs.Form as middle
use Rattle.middle_form.specs.WellFormed.{all_fit, code_fits, function_fits, is_well_formed, main_fits, result_fits}
use Rattle.middle_form.specs.WellFormed as form
use Rattle.codegen.specs.Generated.{block_with, blocks, blocks_with, count, extra, facts_of, exit_from, first, function_of, generated, is_passed, last, listed, onward, scope_fact, target, tested}
use Rattle.middle_form.specs.Guarded.{asked_before, asks, is_by_pointer, is_guarded, is_guarded_function, is_guarded_program, is_kept, is_nothing_asked, joined, place_check, uses_pointers, with_check}
use Rattle.code_verification.specs.Verified.{AreGuarded, IsGuardedBlock, IsGuardedFunction, IsVerified, NamesFact, NamesFacts}
use Rattle.code_verification.specs.WellFormed.{IsRest, IsWellFormed, IsWellFormedBlock, IsWellFormedFunction}
use Rattle.code_verification.specs.WellFormed as here
use Rattle.codegen.proofs.Generates.{Led, led, length-extra}
use Rattle.codegen.proofs.Entries.{Entry, FitsKnows, FitsTable, entries_inside, facts_at, facts_together, fits_after, fits_join, length-entries}
use Rattle.codegen.proofs.Knowing.{AllFit, FitsCheck, Holds, and_left, and_right, append_known, brings_join, brings_same, checked, checks_after, checks_at_scope, checks_kept_some, entry_checks, entry_holds, fit_before, fit_joined, fit_place, fit_with, holds_after, holds_brings, holds_less, holds_load, holds_scope, holds_store, holds_wrote_some, joined_known, same_scope, with_known}
use Rattle.codegen.proofs.Paired.{AllPaired, paired_all, paired_append}

none_asked : (w : List Fact) → is_nothing_asked w ≡ true → w ≡ []
none_asked [] h = refl
none_asked (f ∷ w) h = absurd (cc h)

-- ---- what is told at the entries of a function's blocks

-- block b is there, and its entry facts are these
abbrev HasFacts : image.Function → ℕ → Entry → Type 0
HasFacts f b e = (x : image.Block) × (slice_get f.blocks b ≡ Some x) × (x.facts ≡ facts_at f.scopes e)

-- so it is of the blocks from number b on
abbrev BeginsWith : image.Function → ℕ → List Entry → Type 0
BeginsWith f b [] = Unit {0}
BeginsWith f b (e ∷ es) = HasFacts f b e × BeginsWith f (suc b) es

begins_front : (f : image.Function) (b : ℕ) (xs ys : List Entry) → BeginsWith f b (xs ++ ys) → BeginsWith f b xs
begins_front f b [] ys h = tt
begins_front f b (x ∷ xs) ys h = (h.0, begins_front f (suc b) xs ys h.1)

begins_back : (f : image.Function) (b : ℕ) (xs ys : List Entry) (c : ℕ) → c ≡ b + length xs → BeginsWith f b (xs ++ ys) → BeginsWith f c ys
begins_back f b [] ys c e h = let z : b ≡ c = omega arith in subst (λ n. BeginsWith f n ys) z h
begins_back f b (x ∷ xs) ys c e h = begins_back f (suc b) xs ys c (omega arith) h.1

get_behind : (pre : List image.Block) (x : image.Block) (xs : List image.Block) → slice_get (pre ++ x ∷ xs) (length pre) ≡ Some x
get_behind [] x xs = refl
get_behind (p ∷ pre) x xs = get_behind pre x xs

has_facts : (f : image.Function) (es : List Entry) (bs : List (List Instruction)) (pre : List image.Block) → length es ≡ length bs → f.blocks ≡ pre ++ blocks_with (map (facts_at f.scopes) es) bs → BeginsWith f (length pre) es
has_facts f [] bs pre l h = tt
has_facts f (e ∷ es) [] pre l h = absurd (let z : ⊥ = omega arith in z)
has_facts f (e ∷ es) (is ∷ bs) pre l h =
    let x = block_with (facts_at f.scopes e) is in
    let rest = blocks_with (map (facts_at f.scopes) es) bs in
    let n : length (pre ++ x ∷ []) ≡ suc (length pre) = omega (arith, length-append pre (x ∷ [])) in (
      (x, ap (λ (all : List image.Block). slice_get all (length pre)) h ∙ get_behind pre x rest, refl),
      subst (λ k. BeginsWith f k es) n (has_facts f es bs (pre ++ x ∷ []) (omega arith) (h ∙ sym (append_assoc pre (x ∷ []) rest))),
    )

-- ---- code of a function

module _ (cells : ℕ) (P : Program) (f : image.Function) where
  abbrev C : image.Image
  C = generated cells P

  -- the program without its scopes
  abbrev Q : middle.Program
  Q = plain_program P

  -- these instructions may come wherever so much is known, and each load and store of them is of a place that was checked
  abbrev R : Entry → List Instruction → Type 0
  R e is = (FitsTable f.kinds e.0 × AllFit f.kinds e.1) × ((k : Known) → Holds f.scopes e.0 k → AreKnown k e.1 → IsRest C f k is × AreGuarded k is)

  entered_at : (b : ℕ) (t : Table) (w : List Fact) → HasFacts f b (t, w) → (k : Known) → Holds f.scopes t k → AreKnown k w → Enters C f k b
  entered_at b t w x k h c = (x.0, x.1, subst (AreKnown k) (sym x.2) (append_known f.scopes t w k h c))

  shut_of : (t : Table) (k : Known) → AreShut f.scopes t → Holds f.scopes t k → KnowsAllShut C f k
  shut_of t k a h s l = subst (λ z. IsKnownAs z (k.scope s)) (a s l) (h s l)

  jumps : (b : ℕ) (t u : Table) (w : List Fact) → FitsTable f.kinds t → AllFit f.kinds w → Brings t u → HasFacts f b (u, w) → R (t, w) (Jump b ∷ [])
  jumps b t u w named fit brings x = ((named, fit), λ k h c. ((((λ n. absurd (cc n)), entered_at b u w x k (holds_brings f.scopes t u k brings h) c), refl), (tt, tt)))

  -- what is right where less is known is right where more is
  brought : (t u : Table) (w : List Fact) (is : List Instruction) → FitsTable f.kinds t → Brings t u → R (u, w) is → R (t, w) is
  brought t u w is named brings n = ((named, n.0.1), λ k h c. n.1 k (holds_brings f.scopes t u k brings h) c)

  -- how code goes on at a block
  goes_on : (b : ℕ) (t u : Table) (w : List Fact) (is : List Instruction) → FitsTable f.kinds t → Brings t u → R (u, w) is → HasFacts f b (u, w) → R (t, w) (onward b is)
  goes_on b t u w is named brings n x = by (is_passed is)
    where
      by : (passed : Bool) → R (t, w) (cond passed is (Jump b ∷ []))
      by true = brought t u w is named brings n
      by false = jumps b t u w named n.0.1 brings x

  -- where a branch leads
  leads : (b : ℕ) (u : Table) (w : List Fact) (is : List Instruction) → R (u, w) is → HasFacts f b (u, w) → (k : Known) → Holds f.scopes u k → AreKnown k w → Enters C f k (target b is)
  leads b u w is n x k h c = by (led is)
    where
      by : Led is → Enters C f k (target b is)
      by (inl (j, e)) =
          let jump : R (u, w) (Jump j ∷ []) = subst (λ (z : List Instruction). R (u, w) z) e n in
          subst (λ (z : List Instruction). Enters C f k (target b z)) (sym e) (jump.1 k h c).0.0.1
      by (inr (t, p)) = subst (λ (z : ℕ). Enters C f k z) (sym (t b)) (entered_at b u w x k h c)

  branches : (a b c : ℕ) (t u v : Table) (x y : List Fact) (is js : List Instruction) → FitsTable f.kinds t → has f.kinds a kind.Bool ≡ true → Brings t u → Brings t v → R (u, x) is → R (v, y) js → HasFacts f b (u, x) → HasFacts f c (v, y)
      → R (t, joined x y) (Branch a (target b is) (target c js) ∷ [])
  branches a b c t u v x y is js named e bu bv m n hb hc = (
    (named, fit_joined f.kinds x y m.0.1 n.0.1),
    λ k h z.
        let q = joined_known k x y z in
        let one = leads b u x is m hb k (holds_brings f.scopes t u k bu h) q.0 in
        let other = leads c v y js n hc k (holds_brings f.scopes t v k bv h) q.1 in
        ((((λ n. absurd (cc n)), (e, one, other)), refl), (tt, tt)),
  )

  simple : (o : Operation) (t : Table) (w : List Fact) (next : List Instruction) → FitsTable f.kinds t → op_fits P.head f.kinds o ≡ true → (needs_shut (image.Simple o) ≡ true → AreShut f.scopes t) → is_kept (written_by o) (asked_before o w) ≡ true
      → R (table.wrote (written_by o) t, w) next → R (t, asked_before o w) (image.Simple o ∷ next)
  simple o t w next named e shut kept n = (
    (named, fit_before f.kinds o w n.0.1),
    λ k h c. let rest = n.1 (after_operation o k) (holds_after f.scopes o t k h) (checks_after o w k kept c) in ((((λ q. shut_of t k (shut q) h), e), rest.0), (tt, rest.1)),
  )

  -- a cell of the kind of register a
  abbrev IsCell : (a r : ℕ) → (disp : ℕ) → Type 0
  IsCell a r disp = on_kind (λ k. has f.kinds a k) (cell_kind P.head f.kinds r disp) ≡ true

  -- behind an aim the scope is aimed at the cell, and the check of its place is known still
  own_cell : (s a r : ℕ) (off : Option ℕ) (disp : ℕ) (k : Known) → place_fits f.kinds r off ≡ true → IsCell a r disp → IsAimedAt C f ((with_scope s (KnownAimed r off disp) k).scope s) a
  own_cell s a r off disp k p q = subst (λ z. IsAimedAt C f z a) (sym (same_scope s (KnownAimed r off disp) (k.scope s))) (p, q)

  own_check : (s r : ℕ) (off : Option ℕ) (disp : ℕ) (k : Known) → IsKnown k (place_check r off) → IsAimChecked (with_scope s (KnownAimed r off disp) k) ((with_scope s (KnownAimed r off disp) k).scope s)
  own_check s r off disp k h = subst (λ z. IsAimChecked (with_scope s (KnownAimed r off disp) k) z) (sym (same_scope s (KnownAimed r off disp) (k.scope s))) (by off h)
    where
      by : (o : Option ℕ) → IsKnown k (place_check r o) → IsChecked (with_scope s (KnownAimed r off disp) k) r o
      by None z = z
      by (Some d) z = z

  load_formed : (to s r : ℕ) (off : Option ℕ) (disp : ℕ) (t : Table) (w : List Fact) (next : List Instruction) → FitsTable f.kinds t → s < f.scopes → place_fits f.kinds r off ≡ true → IsCell to r disp → is_by_pointer f.kinds r off ≡ true → is_kept (Some to) w ≡ true
      → R (upd (table.wrote (Some to) t) s Unknown, w) next → R (t, with_check (place_check r off) w) (Aim s r off disp ∷ Load to s ∷ next)
  load_formed to s r off disp t w next named there p q by_pointer kept n = (
    (named, fit_with f.kinds (place_check r off) w (fit_place f.kinds r off by_pointer p) n.0.1),
    λ k h c.
        let aimed : Known = with_scope s (KnownAimed r off disp) k in
        let both = with_known (place_check r off) k w c in
        let rest = n.1 (wrote to aimed) (holds_load f.scopes to s (KnownAimed r off disp) t k h) (checks_kept_some (Some to) aimed w kept (checks_at_scope f.kinds s (KnownAimed r off disp) k w n.0.1 both.1)) in
        ((((λ e. absurd (cc e)), (p, there)), (((λ e. absurd (cc e)), (there, own_cell s to r off disp k p q)), rest.0)), (tt, (own_check s r off disp k both.0, rest.1))),
  )

  store_formed : (s r : ℕ) (off : Option ℕ) (disp from : ℕ) (t : Table) (w : List Fact) (next : List Instruction) → FitsTable f.kinds t → s < f.scopes → place_fits f.kinds r off ≡ true → IsCell from r disp → is_by_pointer f.kinds r off ≡ true
      → R (upd t s Unknown, w) next → R (t, with_check (place_check r off) w) (Aim s r off disp ∷ Store s from ∷ next)
  store_formed s r off disp from t w next named there p q by_pointer n = (
    (named, fit_with f.kinds (place_check r off) w (fit_place f.kinds r off by_pointer p) n.0.1),
    λ k h c.
        let aimed : Known = with_scope s (KnownAimed r off disp) k in
        let both = with_known (place_check r off) k w c in
        let rest = n.1 aimed (holds_store f.scopes s (KnownAimed r off disp) t k h) (checks_at_scope f.kinds s (KnownAimed r off disp) k w n.0.1 both.1) in
        ((((λ e. absurd (cc e)), (p, there)), (((λ e. absurd (cc e)), (there, own_cell s from r off disp k p q)), rest.0)), (tt, (own_check s r off disp k both.0, rest.1))),
  )

  load_by_formed : (to s r : ℕ) (off : Option ℕ) (disp : ℕ) (t : Table) (w : List Fact) (next : List Instruction) → FitsTable f.kinds t → s < f.scopes → t s ≡ KnownAimed r off disp → place_fits f.kinds r off ≡ true → IsCell to r disp → is_by_pointer f.kinds r off ≡ true → is_kept (Some to) w ≡ true
      → R (table.wrote (Some to) t, w) next → R (t, with_check (place_check r off) w) (Load to s ∷ next)
  load_by_formed to s r off disp t w next named there aimed p q by_pointer kept n = (
    (named, fit_with f.kinds (place_check r off) w (fit_place f.kinds r off by_pointer p) n.0.1),
    λ k h c.
        let at : k.scope s ≡ KnownAimed r off disp = subst (λ z. IsKnownAs z (k.scope s)) aimed (h s there) in
        let both = with_known (place_check r off) k w c in
        let rest = n.1 (wrote to k) (holds_wrote_some f.scopes (Some to) t k h) (checks_kept_some (Some to) k w kept both.1) in
        ((((λ e. absurd (cc e)), (there, subst (λ z. IsAimedAt C f z to) (sym at) (p, q))), rest.0), (subst (λ z. IsAimChecked k z) (sym at) (checked r off k both.0), rest.1)),
  )

  store_by_formed : (s r : ℕ) (off : Option ℕ) (disp from : ℕ) (t : Table) (w : List Fact) (next : List Instruction) → FitsTable f.kinds t → s < f.scopes → t s ≡ KnownAimed r off disp → place_fits f.kinds r off ≡ true → IsCell from r disp → is_by_pointer f.kinds r off ≡ true
      → R (t, w) next → R (t, with_check (place_check r off) w) (Store s from ∷ next)
  store_by_formed s r off disp from t w next named there aimed p q by_pointer n = (
    (named, fit_with f.kinds (place_check r off) w (fit_place f.kinds r off by_pointer p) n.0.1),
    λ k h c.
        let at : k.scope s ≡ KnownAimed r off disp = subst (λ z. IsKnownAs z (k.scope s)) aimed (h s there) in
        let both = with_known (place_check r off) k w c in
        let rest = n.1 k h both.1 in
        ((((λ e. absurd (cc e)), (there, subst (λ z. IsAimedAt C f z from) (sym at) (p, q))), rest.0), (subst (λ z. IsAimChecked k z) (sym at) (checked r off k both.0), rest.1)),
  )

  aim_formed : (s r : ℕ) (off : Option ℕ) (disp : ℕ) (t : Table) (w : List Fact) (next : List Instruction) → FitsTable f.kinds t → s < f.scopes → place_fits f.kinds r off ≡ true → R (upd t s (KnownAimed r off disp), w) next → R (t, w) (Aim s r off disp ∷ next)
  aim_formed s r off disp t w next named there p n = (
    (named, n.0.1),
    λ k h c.
        let z = KnownAimed r off disp in
        let rest = n.1 (with_scope s z k) (holds_scope f.scopes s z t k h) (checks_at_scope f.kinds s z k w n.0.1 c) in
        ((((λ e. absurd (cc e)), (p, there)), rest.0), (tt, rest.1)),
  )

  leave_formed : (s : ℕ) (t : Table) (w : List Fact) (next : List Instruction) → FitsTable f.kinds t → s < f.scopes → R (upd t s KnownShut, w) next → R (t, w) (Leave s ∷ next)
  leave_formed s t w next named there n = (
    (named, n.0.1),
    λ k h c.
        let rest = n.1 (with_scope s KnownShut k) (holds_scope f.scopes s KnownShut t k h) (checks_at_scope f.kinds s KnownShut k w n.0.1 c) in
        ((((λ e. absurd (cc e)), there), rest.0), (tt, rest.1)),
  )

  loose_formed : (s : ℕ) (t : Table) (w : List Fact) (next : List Instruction) → FitsTable f.kinds t → R (upd t s Unknown, w) next → R (t, w) next
  loose_formed s t w next named n = ((named, n.0.1), λ k h c. n.1 k (holds_less f.scopes s t k h) c)

  callee_formed : (to : Option ℕ) (args : List ℕ) (o : Option Function) → form.callee_fits Q f.kinds (option_map plain_function o) to args ≡ true → callee_fits C f (option_map function_of o) to args ≡ true
  callee_formed to args None h = absurd (cc h)
  callee_formed to args (Some F) h = h

  call_formed : (to : Option ℕ) (g : ℕ) (args : List ℕ) (t : Table) (w : List Fact) (next : List Instruction) → FitsTable f.kinds t → AreShut f.scopes t → form.callee_fits Q f.kinds (slice_get Q.functions g) to args ≡ true → is_kept to w ≡ true
      → R (table.wrote to t, w) next → R (t, w) (image.Call to g args ∷ next)
  call_formed to g args t w next named shut fits kept n =
      let there : form.callee_fits Q f.kinds (option_map plain_function (slice_get P.functions g)) to args ≡ true =
      subst (λ o. form.callee_fits Q f.kinds o to args ≡ true) (slice_get-map plain_function P.functions g) fits in
      let callee : callee_fits C f (slice_get C.functions g) to args ≡ true =
      subst (λ o. callee_fits C f o to args ≡ true) (sym (slice_get-map function_of P.functions g)) (callee_formed to args (slice_get P.functions g) there) in (
        (named, n.0.1),
        λ k h c. let rest = n.1 (wrote_some to k) (holds_wrote_some f.scopes to t k h) (checks_kept_some to k w kept c) in ((((λ q. shut_of t k shut h), callee), rest.0), (tt, rest.1)),
      )

  fails : (a : ℕ) (t : Table) → FitsTable f.kinds t → has f.kinds a kind.Text ≡ true → R (t, []) (image.Error a ∷ [])
  fails a t named e = ((named, All-nil (FitsCheck f.kinds)), λ k h c. ((((λ n. absurd (cc n)), e), refl), (tt, tt)))

  -- nothing is asked: what is right behind nothing is right behind what is asked so
  unasked : (t : Table) (w : List Fact) (is : List Instruction) → w ≡ [] → R (t, w) is → R (t, []) is
  unasked t w is e h = subst (λ (v : List Fact). R (t, v) is) e h

  unasked_at : (b : ℕ) (t : Table) (w : List Fact) → w ≡ [] → HasFacts f b (t, w) → HasFacts f b (t, [])
  unasked_at b t w e h = subst (λ (v : List Fact). HasFacts f b (t, v)) e h

  -- each way out is right where is known what has to be, and no check
  abbrev Leads : List Table → List (List Instruction) → Type 0
  Leads [] [] = Unit {0}
  Leads (e ∷ es) (w ∷ ws) = R (e, []) w × Leads es ws
  Leads _ _ = ⊥

  exit_at : (es : List Table) (ws : List (List Instruction)) (j : ℕ) → Leads es ws → j < length ws → (e : Table) × (slice_get es j ≡ Some e) × R (e, []) (exit_from ws j)
  exit_at [] [] j h l = absurd (let z : ⊥ = omega arith in z)
  exit_at [] (w ∷ ws) j h l = absurd h
  exit_at (e ∷ es) [] j h l = absurd h
  exit_at (e ∷ es) (w ∷ ws) zero h l = (e, refl, h.0)
  exit_at (e ∷ es) (w ∷ ws) (suc j) h l = exit_at es ws j h.1 (omega arith)

  -- code is right before what is right, and so are its other blocks
  abbrev Right : Code → Table → List Fact → ℕ → List Instruction → List (List Instruction) → Type 0
  Right a t w b next exits = R (t, asks (plain a) w) (first a b next exits) × AllPaired R (entries_inside a t w) (extra a b next exits)

  code_formed : (a : Code) (t : Table) (w : List Fact) (b : ℕ) (next : List Instruction) (exits : List (List Instruction)) (es : List Table) → FitsTable f.kinds t → code_fits Q f.kinds (length exits) (plain a) ≡ true → is_guarded (plain a) w ≡ true → uses_pointers f.kinds (plain a) ≡ true
      → IsDisciplined f.kinds f.scopes es a t → Leads es exits → R (after a t, w) next → BeginsWith f b (entries_inside a t w) → Right a t w b next exits
  code_formed Nothing t w b next exits es named fits g u d out n has' = (n, tt)
  code_formed (Do o) t w b next exits es named fits g u d out n has' = (simple o t w next named fits d g n, tt)
  code_formed (scoped.Load to s r off disp) t w b next exits es named fits g u d out n has' =
      (load_formed to s r off disp t w next named d (and_left _ _ fits) (and_right (place_fits f.kinds r off) _ fits) u g n, tt)
  code_formed (scoped.Store s r off disp from) t w b next exits es named fits g u d out n has' =
      (store_formed s r off disp from t w next named d (and_left _ _ fits) (and_right (place_fits f.kinds r off) _ fits) u n, tt)
  code_formed (LoadBy to s r off disp) t w b next exits es named fits g u d out n has' =
      (load_by_formed to s r off disp t w next named d.0 d.2 (and_left _ _ fits) (and_right (place_fits f.kinds r off) _ fits) u g n, tt)
  code_formed (StoreBy s r off disp from) t w b next exits es named fits g u d out n has' =
      (store_by_formed s r off disp from t w next named d.0 d.2 (and_left _ _ fits) (and_right (place_fits f.kinds r off) _ fits) u n, tt)
  code_formed (scoped.Aim s r off disp) t w b next exits es named fits g u d out n has' = (aim_formed s r off disp t w next named d.0 d.1 n, tt)
  code_formed (scoped.Leave s) t w b next exits es named fits g u d out n has' = (leave_formed s t w next named d n, tt)
  code_formed (Loose s) t w b next exits es named fits g u d out n has' = (loose_formed s t w next named n, tt)
  code_formed (scoped.Call to h args) t w b next exits es named fits g u d out n has' = (call_formed to h args t w next named d fits g n, tt)
  code_formed (Fail a) t w b next exits es named fits g u d out n has' = (fails a t named fits, tt)
  code_formed (Then a c) t w b next exits es named fits g u d out n has' =
      let inside = entries_inside c (after a t) w in
      let v = asks (plain c) w in
      let there = begins_back f b inside (entries_inside a t v) (b + count c) (ap (λ k. b + k) (sym (length-entries c (after a t) w))) has' in
      let behind = code_formed c (after a t) w b next exits es (fits_after f.kinds f.scopes es a t d.0 named) (and_right (code_fits Q f.kinds (length exits) (plain a)) _ fits) (and_right (is_guarded (plain a) v) _ g) (and_right (uses_pointers f.kinds (plain a)) _ u) d.1 out n (begins_front f b inside _ has') in
      let whole = code_formed a t v (b + count c) (first c b next exits) exits es named (and_left _ _ fits) (and_left _ _ g) (and_left _ _ u) d.0 out behind.0 there in
      (whole.0, paired_append R inside (entries_inside a t v) (extra c b next exits) (extra a (b + count c) (first c b next exits) exits) behind.1 whole.1)
  code_formed (Choose r a c) t w b next exits es named fits g u d out n has' =
      let h = join (Choose r a c) t in
      let j = onward b next in
      let m = suc (suc b + count a) in
      let va = asks (plain a) w in
      let vc = asks (plain c) w in
      let both = and_right (has f.kinds r kind.Bool) _ fits in
      let side : List (List Instruction) = first c m j exits ∷ [] in
      let told_side : List Entry = (t, vc) ∷ [] in
      let end_a : R (after a t, w) j = goes_on b (after a t) h w next (fits_after f.kinds f.scopes es a t d.0 named) d.1 n has'.0 in
      let end_c : R (after c t, w) j = goes_on b (after c t) h w next (fits_after f.kinds f.scopes es c t d.2 named) d.3 n has'.0 in
      let behind_a = begins_back f (suc b) (entries_inside a t w) ((t, va) ∷ (entries_inside c t w ++ told_side)) (suc b + count a) (ap (λ k. suc b + k) (sym (length-entries a t w))) has'.1 in
      let behind_c = begins_back f m (entries_inside c t w) told_side (m + count c) (ap (λ k. m + k) (sym (length-entries c t w))) behind_a.1 in
      let x = code_formed a t w (suc b) j exits es named (and_left _ _ both) (and_left _ _ g) (and_left _ _ u) d.0 out end_a (begins_front f (suc b) (entries_inside a t w) _ has'.1) in
      let y = code_formed c t w m j exits es named (and_right (code_fits Q f.kinds (length exits) (plain a)) _ both) (and_right (is_guarded (plain a) w) _ g) (and_right (uses_pointers f.kinds (plain a)) _ u) d.2 out end_c (begins_front f m (entries_inside c t w) _ behind_a.1) in (
        branches r (suc b + count a) (m + count c) t t t va vc (first a (suc b) j exits) (first c m j exits) named (and_left _ _ fits) (brings_same t) (brings_same t) x.0 y.0 behind_a.0 behind_c.0,
        (n, paired_append R (entries_inside a t w) ((t, va) ∷ (entries_inside c t w ++ told_side)) (extra a (suc b) j exits) (first a (suc b) j exits ∷ (extra c m j exits ++ side)) x.1 (x.0, paired_append R (entries_inside c t w) told_side (extra c m j exits) side y.1 (y.0, tt))),
      )
  code_formed (Loop test r body) t w b next exits es named fits g u d out n has' =
      let h = join (Loop test r body) t in
      let e = after test h in
      let k = suc (suc b) in
      let i = Jump b ∷ [] in
      let xs = onward (suc b) next ∷ exits in
      let m = suc (suc (suc b) + count body) in
      let j = tested r body b next exits in
      let both = and_right (has f.kinds r kind.Bool) _ fits in
      let none : AllFit f.kinds [] = All-nil (FitsCheck f.kinds) in
      let g1 = and_right (is_nothing_asked w) _ g in
      let g2 = and_right (is_nothing_asked (asks (plain test) [])) _ g1 in
      let g3 = and_right (is_nothing_asked (asks (plain body) [])) _ g2 in
      let named_h = fits_join f.kinds (Loop test r body) t named in
      let named_e = fits_after f.kinds f.scopes (h ∷ es) test h d.0 named_h in
      let behind : HasFacts f (suc b) (h, []) = unasked_at (suc b) h w (none_asked w (and_left _ _ g)) has'.1.0 in
      let follows : R (h, []) next = unasked h w next (none_asked w (and_left _ _ g)) n in
      let inside : Leads (h ∷ es) xs = (goes_on (suc b) h h [] next named_h (brings_same h) follows behind, out) in
      let behind_body = begins_back f k (entries_inside body e []) ((e, asks (plain body) []) ∷ entries_inside test h []) (k + count body) (ap (λ z. k + z) (sym (length-entries body e []))) has'.1.1 in
      let enter : R (t, []) i = jumps b t h [] named none (brings_join (Loop test r body) t) has'.0 in
      let turn : R (after body e, []) i = jumps b (after body e) h [] (fits_after f.kinds f.scopes (h ∷ es) body e d.2 named_e) none d.3 has'.0 in
      let begin : HasFacts f (k + count body) (e, []) = unasked_at (k + count body) e (asks (plain body) []) (none_asked (asks (plain body) []) (and_left _ _ g2)) behind_body.0 in
      let x = code_formed body e [] k i xs (h ∷ es) named_e (and_right (code_fits Q f.kinds (suc (length exits)) (plain test)) _ both) (and_right (is_guarded (plain test) []) _ g3) (and_right (uses_pointers f.kinds (plain test)) _ u) d.2 inside turn (begins_front f k (entries_inside body e []) _ has'.1.1) in
      let enters : R (e, []) (first body k i xs) = unasked e (asks (plain body) []) (first body k i xs) (none_asked (asks (plain body) []) (and_left _ _ g2)) x.0 in
      let end : R (e, []) j = branches r (k + count body) (suc b) e e h [] [] (first body k i xs) next named_e (and_left _ _ fits) (brings_same e) d.1 enters follows begin behind in
      let y = code_formed test h [] m j xs (h ∷ es) named_h (and_left _ _ both) (and_left _ _ g3) (and_left _ _ u) d.0 inside end behind_body.1 in (
        enter,
        (unasked h (asks (plain test) []) (first test m j xs) (none_asked (asks (plain test) []) (and_left _ _ g1)) y.0, (n, paired_append R (entries_inside body e []) ((e, asks (plain body) []) ∷ entries_inside test h []) (extra body k i xs) (first body k i xs ∷ extra test m j xs) x.1 (x.0, y.1))),
      )
  code_formed (Block a) t w b next exits es named fits g u d out n has' =
      let h = join (Block a) t in
      let behind : HasFacts f b (h, []) = unasked_at b h w (none_asked w (and_left _ _ g)) has'.0 in
      let follows : R (h, []) next = unasked h w next (none_asked w (and_left _ _ g)) n in
      let way = onward b next in
      let inside : Leads (h ∷ es) (way ∷ exits) = (goes_on b h h [] next n.0.0 (brings_same h) follows behind, out) in
      let end : R (after a t, []) way = goes_on b (after a t) h [] next (fits_after f.kinds f.scopes (h ∷ es) a t d.0 named) d.1 follows behind in
      let x = code_formed a t [] (suc b) way (way ∷ exits) (h ∷ es) named fits (and_right (is_nothing_asked w) _ g) u d.0 inside end has'.1 in
      (x.0, (n, x.1))
  code_formed (Exit k) t w b next exits es named fits g u d out n has' =
      let at = exit_at es exits k out (ltb-true k (length exits) fits) in
      (brought t at.0 [] (exit_from exits k) named (d at.0 at.1) at.2, tt)

-- the facts at the entry of a block name what is there
entry_named : (ks : List Kind) (m n : ℕ) (t : Table) (w : List Fact) → n ≤ m → FitsTable ks t → AllFit ks w → All (NamesFact ks m) (listed n t ++ w)
entry_named ks m zero t w l fit h = All-weaker (FitsCheck ks) (NamesFact ks m) by w h
  where
    by : (g : Fact) → FitsCheck ks g → NamesFact ks m g
    by (fact.Nonnull r) q = q
    by (fact.Inside d r) q = q
    by (fact.Aimed s r off disp) q = absurd q
    by (fact.Shut s) q = absurd q
entry_named ks m (suc n) t w l fit h = by (omega arith) (t n) (fit n) (entry_named ks m n t w (omega arith) fit h)
  where
    by : n < m → (z : Knows) → FitsKnows ks z → All (NamesFact ks m) (listed n t ++ w) → All (NamesFact ks m) ((scope_fact n z ++ listed n t) ++ w)
    by lt Unknown e rest = rest
    by lt KnownShut e rest = All-cons (NamesFact ks m) (fact.Shut n) (listed n t ++ w) lt rest
    by lt (KnownAimed r off disp) e rest = All-cons (NamesFact ks m) (fact.Aimed n r off disp) (listed n t ++ w) (lt, e) rest

few_scopes : (gs : List Function) → All IsScopedFunction gs → most_scopes (map function_of gs) ≤ 4
few_scopes [] h = omega arith
few_scopes (g ∷ gs) h =
    let own = All-head IsScopedFunction g gs h in
    let here = own.few in
    let rest = few_scopes gs (All-tail IsScopedFunction g gs h) in
    omega arith

module _ (cells : ℕ) (P : Program) where
  last_formed : (g : Function) (o : Option Kind) (t : Table) → g.result ≡ o → result_fits (plain_function g) ≡ true → FitsTable g.kinds t → AreShut g.scopes t → R cells P (function_of g) (t, []) (elim o [ None ↦ ReturnVoid ∷ [] | Some k ↦ Return g.value ∷ [] ])
  last_formed g None t e h named shut =
      ((named, All-nil (FitsCheck g.kinds)), λ k s c. ((((λ q. shut_of cells P (function_of g) t k shut s), ap is_none e), refl), (tt, tt)))
  last_formed g (Some j) t e h named shut = (
    (named, All-nil (FitsCheck g.kinds)),
    λ k s c. ((((λ q. shut_of cells P (function_of g) t k shut s), ap (on_kind (λ i. has g.kinds g.value i)) e ∙ sym (ap (λ o. elim o [ None ↦ true | Some i ↦ has g.kinds g.value i ]) e) ∙ h), refl), (tt, tt)),
  )

  -- a function is right
  record IsRight (f : image.Function) : Type 0 where
    formed : IsWellFormedFunction (generated cells P) f
    guarded : IsGuardedFunction f
    named : NamesFacts f

  function_right : (g : Function) → function_fits (plain_program P) (plain_function g) ≡ true → is_guarded_function (plain_function g) ≡ true → IsScopedFunction g → IsRight (function_of g)
  function_right g fits checks keeps =
      let f = function_of g in
      let r = R cells P f in
      let n = g.scopes in
      let rest : (code_fits (plain_program P) g.kinds 0 (plain g.body) && result_fits (plain_function g)) ≡ true = and_right (nat_lt g.parameters (suc (length g.kinds))) _ fits in
      let guards = and_left _ _ checks in
      let es : List Entry = (at_entry, asks (plain g.body) []) ∷ entries_inside g.body at_entry [] in
      let told : facts_of g ≡ map (facts_at n) es = ap (λ (ws : List (List Fact)). (listed n at_entry ++ asks (plain g.body) []) ∷ ws) (facts_together n g.body at_entry []) in
      let all_blocks : f.blocks ≡ blocks_with (map (facts_at n) es) (blocks g) = ap (λ (ws : List (List Fact)). blocks_with ws (blocks g)) told in
      let long : length es ≡ length (blocks g) = ap suc (length-entries g.body at_entry [] ∙ sym (length-extra g.body 1 (last g) [])) in
      let begin : BeginsWith f 0 es = has_facts f es (blocks g) [] long all_blocks in
      let named : FitsTable g.kinds at_entry = λ s. tt in
      let end = last_formed g g.result (after g.body at_entry) refl (and_right _ _ rest) (fits_after g.kinds n [] g.body at_entry keeps.body named) keeps.shut in
      let each : Right cells P f g.body at_entry [] 1 (last g) [] =
      code_formed cells P f g.body at_entry [] 1 (last g) [] [] named (and_left _ _ rest) (and_right (is_nothing_asked (asks (plain g.body) [])) _ guards) (and_right _ _ checks) keeps.body tt end begin.1 in
      let pairs : AllPaired r es (blocks g) = (each.0, each.1) in
      let entry_known : (e : Entry) (is : List Instruction) → r e is → IsRest (generated cells P) f (facts_known (facts_at n e)) is × AreGuarded (facts_known (facts_at n e)) is =
      λ e is h. h.1 (facts_known (facts_at n e)) (entry_holds n e.0 e.1) (entry_checks g.kinds n e.0 e.1 h.0.1) in
      record {
        formed = record {
          parameters = (let h = ltb-true g.parameters (suc (length g.kinds)) (and_left _ _ fits) in omega arith);
          begins = entered_at cells P f 0 at_entry [] (unasked_at cells P f 0 at_entry (asks (plain g.body) []) (none_asked (asks (plain g.body) []) (and_left _ _ guards)) begin.0) known.at_entry (λ s l. refl) tt;
          blocks = subst (All (IsWellFormedBlock (generated cells P) f)) (sym all_blocks) (paired_all r (IsWellFormedBlock (generated cells P) f) n (λ e is h. (entry_known e is h).0) es (blocks g) pairs);
        };
        guarded = subst (All IsGuardedBlock) (sym all_blocks) (paired_all r IsGuardedBlock n (λ e is h. (entry_known e is h).1) es (blocks g) pairs);
        named = subst (All (λ (b : image.Block). All (NamesFact g.kinds n) b.facts)) (sym all_blocks) (paired_all r (λ (b : image.Block). All (NamesFact g.kinds n) b.facts) n (λ e is h. entry_named g.kinds n n e.0 e.1 (omega arith) h.0.0 h.0.1) es (blocks g) pairs);
      }

  functions_right : (gs : List Function) → all_fit (plain_program P) (map plain_function gs) ≡ true → list_all is_guarded_function (map plain_function gs) ≡ true → All IsScopedFunction gs → All (λ g. IsRight (function_of g)) gs
  functions_right [] fits checks keeps = All-nil (λ g. IsRight (function_of g))
  functions_right (g ∷ gs) fits checks keeps =
      All-cons (λ x. IsRight (function_of x)) g gs (function_right g (and_left _ _ fits) (and_left _ _ checks) (All-head IsScopedFunction g gs keeps))
      (functions_right gs (and_right _ _ fits) (and_right (is_guarded_function (plain_function g)) _ checks) (All-tail IsScopedFunction g gs keeps))

  main_formed : (gs : List Function) → main_fits (map plain_function gs) ≡ true → here.main_fits (slice_get (map function_of gs) 0) ≡ true
  main_formed [] h = h
  main_formed (g ∷ gs) h = h

pub verified : (cells : ℕ) (P : Program) → is_well_formed (plain_program P) ≡ true → is_guarded_program (plain_program P) ≡ true → IsScoped P → IsVerified (generated cells P)
verified cells P h g keeps =
    let all = All-map (IsRight cells P) function_of P.functions (functions_right cells P P.functions (and_right (main_fits (map plain_function P.functions)) _ h) g keeps) in
    record {
      formed = record {
        main = main_formed cells P P.functions (and_left _ _ h);
        functions = All-weaker (IsRight cells P) (IsWellFormedFunction (generated cells P)) (λ f q. q.formed) (generated cells P).functions all;
      };
      few = few_scopes P.functions keeps;
      facts = All-weaker (IsRight cells P) NamesFacts (λ f q. q.named) (generated cells P).functions all;
      guarded = All-weaker (IsRight cells P) IsGuardedFunction (λ f q. q.guarded) (generated cells P).functions all;
    }
