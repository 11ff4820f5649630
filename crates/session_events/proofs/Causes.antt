-- A want has its cause among the events that lead to it.
use Rattle.std.proofs.Common.{◌≡◌, ◌⊎◌, List, [], ◌∷◌, refl, ap, subst, inl, inr}
use Rattle.cells.specs.declared.ending.Want.{Want}
use Rattle.pointer_word.specs.Machine.{State}
use Rattle.world_semantics.specs.Programs.{Program, Setting, Wanted, begun}
use Rattle.world_semantics.proofs.Causing.{Tells, leads_to, nothing_yet, one_caused, tells, turn_caused}
use Rattle.mover_events.specs.Going.{Event}
use Rattle.session_events.specs.Knowing.{Goes, Known, learned}
use Rattle.session_events.specs.Laws.{IsCausedAmong, unused}

module _ (g : Setting) (want : Want) (q : Program) (l : Known) where
  -- the want was told at first, or has its cause behind that
  some_caused : (p : Program) (k : Known) (es : List Event) → Goes g p k es q l → Tells want q.mode → Tells want p.mode ⊎ IsCausedAmong g want p k es
  some_caused p k [] d so = inl (subst (λ (y : Program). Tells want y.mode) d.0 so)
  some_caused p k (e ∷ es) d so =
      let t : State = d.1.0 in
      let c : Program = d.1.1 in
      elim (some_caused c (learned g t) es d.1.3 so) [
        | inl there ↦ elim (one_caused want g p e.answer c.mode (turn_caused g e.state p e.choice e.answer (t, c) d.1.2) there) [
          | inl here ↦ inl here
          | inr r ↦ inr (record { before = []; event = e; after = es; at = p; known = k; next = c; among = refl; goes = (refl, refl, λ o own. refl); cause = r; happens = (t, d.1.2); leads = leads_to want c.mode there })
        ]
        | inr r ↦ inr (record { before = e ∷ r.before; event = r.event; after = r.after; at = r.at; known = r.known; next = r.next; among = ap (λ ys. e ∷ ys) r.among; goes = (d.0, (t, c, d.1.2, r.goes)); cause = r.cause; happens = r.happens; leads = r.leads })
      ]

  pub caused_since : (es : List Event) → Goes g (begun g.image) unused es q l → q.mode ≡ Wanted want → IsCausedAmong g want (begun g.image) unused es
  caused_since es d m = elim (some_caused (begun g.image) unused es d (tells want q.mode m)) [ inl none ↦ absurd (nothing_yet want none) | inr r ↦ r ]
