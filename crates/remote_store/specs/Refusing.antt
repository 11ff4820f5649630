-- What is told of calls that were refused.
use Rattle.std.specs.Prelude.{◌≡◌, ℕ, ◌+◌, ◌%◌, Some, None}
use Rattle.remote_store.specs.declared.port.Cause.{Cause}
use Rattle.remote_store.specs.declared.port.Refusal.{Refusal}
use Rattle.remote_store.specs.declared.port.Refusal.TheVariants as R
use Rattle.remote_store.specs.declared.port.RefusedCall.{RefusedCall}
use Rattle.remote_store.specs.declared.port.RefusedCall.TheVariants as C
use Rattle.remote_store.specs.declared.port.Refusals.{Refusals}

-- nothing was refused
abbrev pub no_refusals : Refusals
no_refusals = record { count = 0; last = None }

-- one call more was refused, modulo 2^64, and this is the last
abbrev pub refused_once : Refusals → RefusedCall → Refusals
refused_once r call = record { count = (r.count + 1) % 18446744073709551616; last = Some call }

-- the get of the object o was refused so, and is told as the last
abbrev pub RefusesGet : Refusal → ℕ → Refusals → Refusals → Type 0
RefusesGet R.Failed o before after = (cause : Cause) × (after ≡ refused_once before (C.Get o cause))
RefusesGet R.Wrong o before after = after ≡ refused_once before (C.Wrong o)
