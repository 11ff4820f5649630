-- The places that scoped code names.
use Rattle.std.specs.Prelude.{◌≡◌, ℕ, Bool, true, Option}
use Rattle.middle_form.specs.Scoped.{Code, Load, Store, LoadBy, StoreBy, Aim, Then, Choose, Loop, Block}

-- what holds of each place that code loads, stores or aims at: a register, where it has one that of the offset, and the displacement
abbrev pub AllPlaces : (ℕ → Option ℕ → ℕ → Bool) → Code → Type 0
AllPlaces Q (Load to s r off disp) = Q r off disp ≡ true
AllPlaces Q (Store s r off disp from) = Q r off disp ≡ true
AllPlaces Q (LoadBy to s r off disp) = Q r off disp ≡ true
AllPlaces Q (StoreBy s r off disp from) = Q r off disp ≡ true
AllPlaces Q (Aim s r off disp) = Q r off disp ≡ true
AllPlaces Q (Then a b) = AllPlaces Q a × AllPlaces Q b
AllPlaces Q (Choose c a b) = AllPlaces Q a × AllPlaces Q b
AllPlaces Q (Loop test c body) = AllPlaces Q test × AllPlaces Q body
AllPlaces Q (Block a) = AllPlaces Q a
AllPlaces Q _ = Unit {0}
