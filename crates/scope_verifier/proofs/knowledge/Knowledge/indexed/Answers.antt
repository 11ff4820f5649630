use Rattle.std.proofs.Common.{◌≡◌, ◌++◌, ◌∷◌, ◌∙◌, ℕ, [], List, ap, subst}
use Rattle.std.specs.Prelude.{slice_index, slice_index_or, slice_set}
use Rattle.std.specs.List.{filter}
use Rattle.scope_verifier.specs.declared.knowledge.Check.{Check}
use Rattle.scope_verifier.specs.Shown.{checks, is_fresh}
use Rattle.scope_verifier.proofs.Showing.{more_shows}
use Rattle.scope_verifier.proofs.knowledge.Knowledge.indexed.Goals as goal

pub returns : goal.returns
returns c = λ R S k h l.
    let n = c.args.self.now in
    let o = c.args.offset in
    let here : Check = record { array = c.args.array; at = n.clock } in
    let list = slice_index_or (checks n.inside.items) o [] in
    let e : c.time_of-written.result ≡ slice_index n.written.items o = c.time_of-written.ensures ∙ ap (λ (x : List ℕ). slice_index x o) c.deref.ensures.value in
    let is = subst (λ (w : ℕ). checks c.add_check.new.lists.items ≡ slice_set (checks n.inside.items) o (filter (λ (x : Check). is_fresh n.since w x.at) list ++ here ∷ [])) e c.in_ok-add_check.ensures in
    more_shows R S n c.add_check.new.lists o c.args.array k is l h
