use Rattle.std.proofs.Common.{◌≡◌, ℕ, ap, ◌∙◌, subst, sym}
use Rattle.std.specs.Prelude.{MatchBool}
use Rattle.object_lock.specs.Seats.{Owns}
use Rattle.session.specs.Keeping.{has_object}
use Rattle.session.specs.Performing.{HoldsLogged, MissesLogged}
use Rattle.session.specs.State.{hold_at, object_of}
use Rattle.session.proofs.Performing.{seized_so}
use Rattle.session.proofs.program.SeatedProgram.seize.Goals as goal

pub returns-else-has-clause-exact : goal.returns-else-has-clause-exact
returns-else-has-clause-exact g c =
    let s = c.args.self.now in
    let k : ℕ = c.args.scope in
    let rel = g.S.RawStore.reliable in
    let same : c.object_at-object.result ≡ object_of s.state c.args.cell = c.object_at-object.ensures.value in
    let free = ap (λ (o : ℕ). has_object (hold_at s.state.holds k) o) (sym same) ∙ (sym c.has.ensures ∙ c.if-has.false) in
    let took = subst (λ (o : ℕ). MatchBool c.reopen.result (HoldsLogged k o c.shut.new.self c.reopen.new.self) (MissesLogged rel o c.shut.new.self c.reopen.new.self)) same c.reopen.ensures.logged in
    seized_so rel k (object_of s.state c.args.cell) c.reopen.result s c.shut.new.self c.reopen.new.self free (subst (λ (o : ℕ). Owns s.state.view o) same c.object_at-object.ensures.own) (c.shut.ensures.after, c.shut.ensures.logged) took
