-- Which checks structured code asks for before it. A load or a store asks for the check of its place; a check gives what is asked behind it; all other
-- code asks for what is asked behind it, so that what is asked where a block begins is what its entry facts have to tell.
use Rattle.std.specs.Prelude.{ℕ, ◌&&◌, ◌||◌, ◌==◌, Bool, true, false, not, List, [], ◌∷◌, ◌++◌, Option, Some, None, slice_get}
use Rattle.std.specs.List.{filter, list_all}
use Rattle.code_form.specs.declared.form.Fact.{Fact}
use Rattle.code_form.specs.declared.form.Fact.TheVariants as fact
use Rattle.code_form.specs.declared.form.Kind.{Kind}
use Rattle.code_form.specs.declared.form.Operation.{Operation}
use Rattle.code_form.specs.declared.form.Operation.TheVariants.{CheckIndex, CheckNull}
use Rattle.code_form.specs.Code.{is_pointer, is_register, on_kind}
use Rattle.code_form.specs.Known.{written_by}
use Rattle.middle_form.specs.Form.{Code, Nothing, Do, Load, Store, Call, Fail, Then, Choose, Loop, Block, Exit, Function, Program}

-- two facts tell of the same check
abbrev pub is_same_check : Fact → Fact → Bool
is_same_check (fact.Nonnull r) (fact.Nonnull q) = r == q
is_same_check (fact.Inside d r) (fact.Inside e q) = (d == e) && (r == q)
is_same_check _ _ = false

-- a fact names register d
abbrev pub names : ℕ → Fact → Bool
names d (fact.Nonnull r) = d == r
names d (fact.Inside e r) = (d == e) || (d == r)
names d (fact.Aimed s r off disp) = (d == r) || is_register d off
names d (fact.Shut s) = false

-- the check of a place
abbrev pub place_check : ℕ → Option ℕ → Fact
place_check r None = fact.Nonnull r
place_check r (Some d) = fact.Inside d r

-- ---- what is asked

-- all but this check
abbrev pub without_check : Fact → List Fact → List Fact
without_check f w = filter (λ (g : Fact). not (is_same_check f g)) w

-- this check too, once
abbrev pub with_check : Fact → List Fact → List Fact
with_check f w = f ∷ without_check f w

-- what either asks for
abbrev pub joined : List Fact → List Fact → List Fact
joined [] w = w
joined (f ∷ fs) w = with_check f (joined fs w)

-- nothing is asked
abbrev pub is_nothing_asked : List Fact → Bool
is_nothing_asked [] = true
is_nothing_asked _ = false

-- a write of this register, where there is one, is of none that is named
abbrev pub is_kept : Option ℕ → List Fact → Bool
is_kept None w = true
is_kept (Some d) w = list_all (λ (f : Fact). not (names d f)) w

-- what is asked before a simple instruction where so much is asked behind it
abbrev pub asked_before : Operation → List Fact → List Fact
asked_before (CheckNull r) w = without_check (fact.Nonnull r) w
asked_before (CheckIndex d r i size) w = without_check (fact.Inside d r) w
asked_before _ w = w

-- what is asked before code where so much is asked behind it. Nothing is asked where a loop begins, and where a block's code or an exit leads to
abbrev pub asks : Code → List Fact → List Fact
asks Nothing w = w
asks (Do o) w = asked_before o w
asks (Load to r off disp) w = with_check (place_check r off) w
asks (Store r off disp from) w = with_check (place_check r off) w
asks (Call to f args) w = w
asks (Fail a) w = []
asks (Then a c) w = asks a (asks c w)
asks (Choose r a c) w = joined (asks a w) (asks c w)
asks (Loop test r body) w = []
asks (Block a) w = asks a []
asks (Exit k) w = []

-- what is asked at the entry of each of the blocks that code needs beside its first instructions, in their order
abbrev pub asked_inside : Code → List Fact → List (List Fact)
asked_inside Nothing w = []
asked_inside (Do o) w = []
asked_inside (Load to r off disp) w = []
asked_inside (Store r off disp from) w = []
asked_inside (Call to f args) w = []
asked_inside (Fail a) w = []
asked_inside (Then a c) w = asked_inside c w ++ asked_inside a (asks c w)
asked_inside (Choose r a c) w = w ∷ (asked_inside a w ++ (asks a w ∷ (asked_inside c w ++ asks c w ∷ [])))
asked_inside (Loop test r body) w = [] ∷ w ∷ (asked_inside body [] ++ (asks body [] ∷ asked_inside test []))
asked_inside (Block a) w = w ∷ asked_inside a []
asked_inside (Exit k) w = []

-- ---- code that checks each place before it is used

-- no register that a check names is written between the check and the access
abbrev pub is_guarded : Code → List Fact → Bool
is_guarded Nothing w = true
is_guarded (Do o) w = is_kept (written_by o) (asked_before o w)
is_guarded (Load to r off disp) w = is_kept (Some to) w
is_guarded (Store r off disp from) w = true
is_guarded (Call to f args) w = is_kept to w
is_guarded (Fail a) w = true
is_guarded (Then a c) w = is_guarded a (asks c w) && is_guarded c w
is_guarded (Choose r a c) w = is_guarded a w && is_guarded c w
is_guarded (Loop test r body) w = is_nothing_asked w && (is_nothing_asked (asks test []) && (is_nothing_asked (asks body []) && (is_guarded test [] && is_guarded body [])))
is_guarded (Block a) w = is_nothing_asked w && is_guarded a []
is_guarded (Exit k) w = true

-- a place without an offset is that of a pointer
abbrev pub is_by_pointer : List Kind → ℕ → Option ℕ → Bool
is_by_pointer ks r None = on_kind is_pointer (slice_get ks r)
is_by_pointer ks r (Some d) = true

-- so is each place of code
abbrev pub uses_pointers : List Kind → Code → Bool
uses_pointers ks Nothing = true
uses_pointers ks (Do o) = true
uses_pointers ks (Load to r off disp) = is_by_pointer ks r off
uses_pointers ks (Store r off disp from) = is_by_pointer ks r off
uses_pointers ks (Call to f args) = true
uses_pointers ks (Fail a) = true
uses_pointers ks (Then a c) = uses_pointers ks a && uses_pointers ks c
uses_pointers ks (Choose r a c) = uses_pointers ks a && uses_pointers ks c
uses_pointers ks (Loop test r body) = uses_pointers ks test && uses_pointers ks body
uses_pointers ks (Block a) = uses_pointers ks a
uses_pointers ks (Exit k) = true

-- a function asks for no check before it
abbrev pub is_guarded_function : Function → Bool
is_guarded_function g = (is_nothing_asked (asks g.body []) && is_guarded g.body []) && uses_pointers g.kinds g.body

-- a program
abbrev pub is_guarded_program : Program → Bool
is_guarded_program P = list_all is_guarded_function P.functions
