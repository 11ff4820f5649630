-- What a seat keeps of a step, by what it found.
use Rattle.std.proofs.Common.{◌≡◌, Bool, true, false, cond, ◌++◌, List, [], ◌∷◌, ap, ◌∙◌, append-nil}
use Rattle.object_lock.specs.Logs.{Deed, is_kept, kept_of}

pub not_kept : (old new : List Deed) (d : Deed) → is_kept d.found d.calls ≡ false → new ≡ old ++ kept_of d → new ≡ old
not_kept old new d e is = is ∙ (ap (λ (b : Bool). old ++ cond b (d ∷ []) []) e ∙ append-nil old)

pub is_so : (old new : List Deed) (d : Deed) → is_kept d.found d.calls ≡ true → new ≡ old ++ kept_of d → new ≡ old ++ d ∷ []
is_so old new d e is = is ∙ ap (λ (b : Bool). old ++ cond b (d ∷ []) []) e
