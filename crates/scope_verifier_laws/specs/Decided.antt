-- What is known before an instruction, as tests.
use Rattle.std.specs.Prelude.{ℕ, zero, suc, Bool, true, false, ◌&&◌, ◌==◌, nat_lt, List, Option, Some, None, slice_get}
use Rattle.std.specs.List.{list_all, list_any}
use Rattle.code_form.specs.declared.form.Kind.{Kind}
use Rattle.code_form.specs.declared.form.Fact.{Fact}
use Rattle.code_form.specs.declared.form.Fact.TheVariants as fact
use Rattle.code_form.specs.Code.{is_array_of, is_pointer, on_kind, place_fits}
use Rattle.code_form.specs.Known.{Known, Knows, KnownAimed, KnownShut}

-- a register is known not to be NULL
abbrev pub is_nonnull : Known → ℕ → Bool
is_nonnull k r = list_any (λ x. x == r) k.nonnull

-- register d is known to hold the offset of an element of the array in register r
abbrev pub is_inside : Known → ℕ → ℕ → Bool
is_inside k d r = list_any (λ (p : ℕ × ℕ). (p.0 == d) && (p.1 == r)) k.inside

-- an offset is this one, or there is none and none here
abbrev pub is_offset : Option ℕ → Option ℕ → Bool
is_offset None None = true
is_offset (Some d) (Some e) = d == e
is_offset _ _ = false

-- a scope is known to be aimed at this place
abbrev pub is_aimed : ℕ → Option ℕ → ℕ → Knows → Bool
is_aimed r off disp (KnownAimed q e i) = (q == r) && (is_offset e off && (i == disp))
is_aimed r off disp _ = false

-- a scope is known to be shut
abbrev pub is_shut : Knows → Bool
is_shut KnownShut = true
is_shut _ = false

-- an entry fact is known
abbrev pub is_known : Known → Fact → Bool
is_known k (fact.Nonnull r) = is_nonnull k r
is_known k (fact.Inside d r) = is_inside k d r
is_known k (fact.Aimed s r off disp) = is_aimed r off disp (k.scope s)
is_known k (fact.Shut s) = is_shut (k.scope s)

-- so is each of these
abbrev pub are_known : Known → List Fact → Bool
are_known k facts = list_all (is_known k) facts

-- the check of a place is known to have been made
abbrev pub is_checked : Known → ℕ → Option ℕ → Bool
is_checked k r None = is_nonnull k r
is_checked k r (Some d) = is_inside k d r

-- the first so many scopes are known to be shut
abbrev pub are_shut : Known → ℕ → Bool
are_shut k zero = true
are_shut k (suc n) = are_shut k n && is_shut (k.scope n)

-- an entry fact names registers of the right kinds, and one of so many scopes
abbrev pub names_fact : List Kind → ℕ → Fact → Bool
names_fact ks scopes (fact.Nonnull r) = on_kind is_pointer (slice_get ks r)
names_fact ks scopes (fact.Inside d r) = is_array_of (slice_get ks d) (slice_get ks r)
names_fact ks scopes (fact.Aimed s r off disp) = nat_lt s scopes && place_fits ks r off
names_fact ks scopes (fact.Shut s) = nat_lt s scopes
