use Rattle.std.proofs.Common.{subst, sym}
use Rattle.code_form.specs.Code.{Covered}
use Rattle.code_form.specs.Form.{image_of}
use Rattle.session.specs.Keeping.{IsSession}
use Rattle.session.specs.State.{Logged}
use Rattle.session.proofs.Opening.{fresh_run}
use Rattle.session.proofs.session.Session.new.Goals as goal

pub invariant_of-result : goal.invariant_of-result
invariant_of-result g c =
    let image = image_of c.image-image.result.now in
    let few = (c.accepted_is_verified.ensures.verified image c.image-image.ensures.accepted).few in
    let cover = c.accepted_is_verified.ensures.covered image c.image-image.ensures.accepted in (
      subst (λ (s : Logged). IsSession g.S.RawStore.honest s.state) (sym c.in-Ok.ensures) (fresh_run g.S.RawStore.honest c.args.region.now.table c.args.seat image c.requires.fresh c.requires.own few),
      subst (λ (s : Logged). Covered s.state.image) (sym c.in-Ok.ensures) cover,
    )
