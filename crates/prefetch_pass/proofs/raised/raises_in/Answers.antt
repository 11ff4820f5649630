use Rattle.std.proofs.Common.{◌≡◌, ◌∙◌, List, ℕ, ap, map, nat_eq}
use Rattle.std.specs.HashMap.{get}
use Rattle.std.proofs.lemmas.Result.{IfOk-weaker}
use Rattle.middle_form.specs.ScopedViews.{scoped_code_of}
use Rattle.prefetch_pass.specs.declared.changes.Assignment.{Assignment}
use Rattle.prefetch_pass.specs.Gathered.{adds_to, changes_among, common, each_of, is_marked, raises}
use Rattle.prefetch_pass.specs.Raised.{is_positive}
use Rattle.prefetch_pass.proofs.Told.{told}
use Rattle.prefetch_pass.proofs.raised.raises_in.Goals as goal

pub returns : goal.returns
returns c =
    let test = scoped_code_of c.args.test.now in
    let body = scoped_code_of c.args.body.now in
    let all : List Assignment = c.in_ok-assignments.assignments.items in
    let steps = c.in_ok-steps.steps in
    let sums = c.in_ok-sums.sums in
    let of_steps : (r : ℕ) → get nat_eq steps r ≡ each_of is_positive (changes_among r all) =
    λ r. c.in_ok-steps.ensures r ∙ ap (λ (l : List Assignment). each_of is_positive (changes_among r l)) c.deref.ensures.value in
    let of_sums : (r : ℕ) → get nat_eq sums r ≡ common (map (adds_to (is_marked steps)) (changes_among r all)) =
    λ r. c.in_ok-sums.ensures r ∙ ap (λ (l : List Assignment). common (map (adds_to (is_marked steps)) (changes_among r l))) c.deref-2.ensures.value in
    IfOk-weaker c.raises_among.result _ _
    (λ m h. λ r. h r
    ∙ (ap (λ (l : List Assignment). each_of (raises (is_marked steps) (get nat_eq sums) r) (changes_among r l)) c.deref-3.ensures.value
    ∙ told test body (get nat_eq steps) (get nat_eq sums) (λ q. changes_among q all) c.in_ok-assignments.ensures of_steps of_sums r))
    c.raises_among.ensures
