-- Where the paths of a function end.
use Rattle.std.proofs.Common.{◌≡◌, ap, ◌∙◌, refl, [], Bool, true, false, Option, Some, None}
use Rattle.std.specs.Prelude.{◌||◌}
use Rattle.c0_syntax.specs.Trees as t
use Rattle.c0_rules.specs.Types.{Signature, VoidType, same_type}
use Rattle.c0_rules.specs.Assignment.{Flow, Reached, has_ended, after_statements, flow_of_statements}
use Rattle.c0_rules.specs.Programs.{paths_agree}
use Rattle.c0_rules.proofs.Assigned.{statements_after}
use Rattle.c0_rules.proofs.Rules.{AllSome, some_has}

module _ (f : Signature) (body : t.Statements) where
  abbrev ends_well : Option Flow → Bool
  ends_well o = elim o [ None ↦ false | Some flow ↦ has_ended flow || same_type f.result VoidType ]

  pub paths_refused : flow_of_statements body (Reached []) ≡ None → paths_agree f body ≡ false
  paths_refused e = ap ends_well e

  -- a path that doesn't end
  pub path_open : has_ended (after_statements body (Reached [])) ≡ false → same_type f.result VoidType ≡ false → paths_agree f body ≡ false
  path_open e v = by (flow_of_statements body (Reached [])) (statements_after body (Reached []))
    where
      by : (o : Option Flow) → AllSome (λ g. g ≡ after_statements body (Reached [])) o → ends_well o ≡ false
      by None q = refl
      by (Some g) q = ap (λ b. b || same_type f.result VoidType) (ap has_ended q ∙ e) ∙ v

  -- paths that all end, or need not
  pub paths_lead : (g : Flow) → flow_of_statements body (Reached []) ≡ Some g → (has_ended (after_statements body (Reached [])) || same_type f.result VoidType) ≡ true → paths_agree f body ≡ true
  paths_lead g e h =
      ap ends_well e
      ∙ ap (λ z. has_ended z || same_type f.result VoidType) (some_has (λ z. z ≡ after_statements body (Reached [])) (flow_of_statements body (Reached [])) g (statements_after body (Reached [])) e)
      ∙ h

-- where the result is `void`
pub void_ends : (a b : Bool) → b ≡ true → (a || b) ≡ true
void_ends true b e = refl
void_ends false b e = e
