-- The numbers that the instructions of an image name are those that its code names.
use Rattle.std.proofs.Common.{ℕ, zero, suc, ◌+◌, Bool, true, false, cond, List, [], ◌∷◌, ◌++◌, Option, Some, None}
use Rattle.std.proofs.lemmas.Bool.{ltb-true}
use Rattle.code_form.specs.declared.form.Kind.{Kind}
use Rattle.code_form.specs.Form as image
use Rattle.code_form.specs.Form.{Instruction, Simple}
use Rattle.code_form.specs.Code.{needs_shut}
use Rattle.middle_form.specs.Form as f
use Rattle.middle_form.specs.Scoped as s
use Rattle.middle_form.specs.Scoped.{plain}
use Rattle.scoped_building.specs.Building.{in_order}
use Rattle.scope_placement.specs.Placed.{Open, leaves, leaves_from, open_behind, placed, whole}
use Rattle.codegen.specs.Generated as g
use Rattle.codegen.specs.Generated.{blocks, exit_from, extra, first, is_passed, last, onward, tested}
use Rattle.c0_well_formed.specs.Laws.{NamesNumbers}
use Rattle.c0_well_formed.proofs.CellKinds.{Each, each_append}
use Rattle.c0_well_formed.proofs.Numbers.{CodeNames}
use Rattle.c0_well_formed.proofs.Near.{Near}

-- ---- code with scopes

-- each simple instruction of the code names such numbers
abbrev pub ScopedNames : s.Code → Type 0
ScopedNames a = CodeNames (plain a)

ordered_names : (cs : List s.Code) → Each ScopedNames cs → ScopedNames (in_order cs)
ordered_names [] h = tt
ordered_names (x ∷ rest) h = (h.0, ordered_names rest h.1)

leaves_names : (z : ℕ) (rs : Open) → Each ScopedNames (leaves_from z rs)
leaves_names z [] = tt
leaves_names z (r ∷ rs) = (tt, leaves_names (suc z) rs)

-- some leaves in front
left_names : (rs : Open) (x : s.Code) → ScopedNames x → Each ScopedNames (leaves rs ++ x ∷ [])
left_names rs x h = each_append ScopedNames (leaves rs) (x ∷ []) (leaves_names 0 rs) (h, tt)

left_where_asked : (b : Bool) (rs : Open) (x : s.Code) → ScopedNames x → Each ScopedNames (cond b (leaves rs) [] ++ x ∷ [])
left_where_asked true rs x h = left_names rs x h
left_where_asked false rs x h = (h, tt)

closed_names : (a : f.Code) → Each ScopedNames (placed a []) → ScopedNames (whole a)
closed_names a h = ordered_names _ (each_append ScopedNames (placed a []) (leaves (open_behind a [])) h (leaves_names 0 (open_behind a [])))

placed_names : (a : f.Code) (rs : Open) → CodeNames a → Each ScopedNames (placed a rs)
placed_names f.Nothing rs h = tt
placed_names (f.Do x) rs h = left_where_asked (needs_shut (Simple x)) rs (s.Do x) h
placed_names (f.Load to r off disp) rs h = (tt, tt)
placed_names (f.Store r off disp from) rs h = (tt, tt)
placed_names (f.Call to i args) rs h = left_names rs (s.Call to i args) tt
placed_names (f.Fail a) rs h = (tt, tt)
placed_names (f.Then a b) rs h = each_append ScopedNames (placed a rs) (placed b (open_behind a rs)) (placed_names a rs h.0) (placed_names b (open_behind a rs) h.1)
placed_names (f.Choose r a b) rs h = left_names rs (s.Choose r (whole a) (whole b)) (closed_names a (placed_names a [] h.0), closed_names b (placed_names b [] h.1))
placed_names (f.Loop test r body) rs h =
    left_names rs (s.Loop (whole test) r (whole body)) (closed_names test (placed_names test [] h.0), closed_names body (placed_names body [] h.1))
placed_names (f.Block a) rs h = left_names rs (s.Block (whole a)) (closed_names a (placed_names a [] h))
placed_names (f.Exit i) rs h = left_names rs (s.Exit i) tt

pub whole_names : (a : f.Code) → CodeNames a → ScopedNames (whole a)
whole_names a h = closed_names a (placed_names a [] h)

-- ---- the image

onward_names : (b : ℕ) (next : List Instruction) → Each NamesNumbers next → Each NamesNumbers (onward b next)
onward_names b next h = by (is_passed next)
  where
    by : (passed : Bool) → Each NamesNumbers (cond passed next (image.Jump b ∷ []))
    by true = h
    by false = (tt, tt)

exit_names : (exits : List (List Instruction)) (i : ℕ) → Each (Each NamesNumbers) exits → Each NamesNumbers (exit_from exits i)
exit_names [] i h = (tt, tt)
exit_names (x ∷ exits) zero h = h.0
exit_names (x ∷ exits) (suc i) h = exit_names exits i h.1

first_names : (a : s.Code) (b : ℕ) (next : List Instruction) (exits : List (List Instruction)) → ScopedNames a → Near a → Each NamesNumbers next → Each (Each NamesNumbers) exits → Each NamesNumbers (first a b next exits)
first_names s.Nothing b next exits h n k o = k
first_names (s.Do x) b next exits h n k o = (h, k)
first_names (s.Load to z r off disp) b next exits h n k o = (ltb-true disp 4294967296 n, (tt, k))
first_names (s.Store z r off disp from) b next exits h n k o = (ltb-true disp 4294967296 n, (tt, k))
first_names (s.LoadBy to z r off disp) b next exits h n k o = (tt, k)
first_names (s.StoreBy z r off disp from) b next exits h n k o = (tt, k)
first_names (s.Aim z r off disp) b next exits h n k o = (ltb-true disp 4294967296 n, k)
first_names (s.Leave z) b next exits h n k o = (tt, k)
first_names (s.Loose z) b next exits h n k o = k
first_names (s.Call to i args) b next exits h n k o = (tt, k)
first_names (s.Fail a) b next exits h n k o = (tt, tt)
first_names (s.Then a d) b next exits h n k o = first_names a (b + g.count d) (first d b next exits) exits h.0 n.0 (first_names d b next exits h.1 n.1 k o) o
first_names (s.Choose r a d) b next exits h n k o = (tt, tt)
first_names (s.Loop test r body) b next exits h n k o = (tt, tt)
first_names (s.Block a) b next exits h n k o = let w = onward_names b next k in first_names a (suc b) (onward b next) (onward b next ∷ exits) h n w (w, o)
first_names (s.Exit i) b next exits h n k o = exit_names exits i o

extra_names : (a : s.Code) (b : ℕ) (next : List Instruction) (exits : List (List Instruction)) → ScopedNames a → Near a → Each NamesNumbers next → Each (Each NamesNumbers) exits → Each (Each NamesNumbers) (extra a b next exits)
extra_names s.Nothing b next exits h n k o = tt
extra_names (s.Do x) b next exits h n k o = tt
extra_names (s.Load to z r off disp) b next exits h n k o = tt
extra_names (s.Store z r off disp from) b next exits h n k o = tt
extra_names (s.LoadBy to z r off disp) b next exits h n k o = tt
extra_names (s.StoreBy z r off disp from) b next exits h n k o = tt
extra_names (s.Aim z r off disp) b next exits h n k o = tt
extra_names (s.Leave z) b next exits h n k o = tt
extra_names (s.Loose z) b next exits h n k o = tt
extra_names (s.Call to i args) b next exits h n k o = tt
extra_names (s.Fail a) b next exits h n k o = tt
extra_names (s.Then a d) b next exits h n k o =
    let rest = first_names d b next exits h.1 n.1 k o in
    each_append (Each NamesNumbers) (extra d b next exits) (extra a (b + g.count d) (first d b next exits) exits) (extra_names d b next exits h.1 n.1 k o) (extra_names a (b + g.count d) (first d b next exits) exits h.0 n.0 rest o)
extra_names (s.Choose r a d) b next exits h n k o =
    let j = onward b next in
    let w = onward_names b next k in
    let m = suc (suc b + g.count a) in (
      k,
      each_append (Each NamesNumbers) (extra a (suc b) j exits) _ (extra_names a (suc b) j exits h.0 n.0 w o)
          (first_names a (suc b) j exits h.0 n.0 w o, each_append (Each NamesNumbers) (extra d m j exits) _ (extra_names d m j exits h.1 n.1 w o) (first_names d m j exits h.1 n.1 w o, tt)),
    )
extra_names (s.Loop test r body) b next exits h n k o =
    let i = image.Jump b ∷ [] in
    let xs = onward (suc b) next ∷ exits in
    let ways : Each (Each NamesNumbers) xs = (onward_names (suc b) next k, o) in
    let j = tested r body b next exits in
    let m = suc (suc (suc b) + g.count body) in (
      first_names test m j xs h.0 n.0 (tt, tt) ways,
      (
        k,
        each_append (Each NamesNumbers) (extra body (suc (suc b)) i xs) _ (extra_names body (suc (suc b)) i xs h.1 n.1 (tt, tt) ways)
            (first_names body (suc (suc b)) i xs h.1 n.1 (tt, tt) ways, extra_names test m j xs h.0 n.0 (tt, tt) ways),
      ),
    )
extra_names (s.Block a) b next exits h n k o = let w = onward_names b next k in (k, extra_names a (suc b) (onward b next) (onward b next ∷ exits) h n w (w, o))
extra_names (s.Exit i) b next exits h n k o = tt

last_names : (x : s.Function) → Each NamesNumbers (last x)
last_names x = by x.result
  where
    by : (o : Option Kind) → Each NamesNumbers (elim o [ None ↦ image.ReturnVoid ∷ [] | Some k ↦ image.Return x.value ∷ [] ])
    by None = (tt, tt)
    by (Some k) = (tt, tt)

pub blocks_names : (x : s.Function) → ScopedNames x.body → Near x.body → Each (Each NamesNumbers) (blocks x)
blocks_names x h n = (first_names x.body 1 (last x) [] h n (last_names x) tt, extra_names x.body 1 (last x) [] h n (last_names x) tt)
