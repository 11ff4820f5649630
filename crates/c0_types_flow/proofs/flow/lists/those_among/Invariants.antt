use Rattle.std.proofs.Common.{◌≡◌, ◌++◌, drop}
use Rattle.std.specs.Prelude.{◌||◌, filter}
use Rattle.c0_types_flow.specs.FlowViews.{letters_of}
use Rattle.c0_rules.specs.Types.{Name, is_among}
use Rattle.c0_types_flow.proofs.flow.lists.those_among.Given as goal

-- both lists stay, and what stood in one of them so far comes before what does of the rest
abbrev pub invariant-loop-name : goal.invariant-loop-name
invariant-loop-name l = record {
  first : l.in_first.names ≡ l.initial.in_first.names;
  second : l.in_second.names ≡ l.initial.in_second.names;
  kept : let is_kept = λ (n : Name). is_among n (letters_of l.initial.in_first.names.now) || is_among n (letters_of l.initial.in_second.names.now) in
      letters_of l.those.items ++ filter is_kept (letters_of (drop l.name-index l.names)) ≡ filter is_kept (letters_of l.names);
}
