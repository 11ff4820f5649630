use Rattle.std.proofs.Common.{rules, ◌≡◌, ap, ◌∙◌, string_bytes}
use Rattle.c0_syntax.specs.Views.{name_of}
use Rattle.c0_rules.specs.Types.{with_name}
use Rattle.c0_types_tables.specs.Views.{resolved_of, typedefs_of}
use Rattle.c0_types_tables.proofs.Tables.{table_after}
use Rattle.c0_types_tables.proofs.typedefs.Typedefs.insert.Goals as goal

pub returns : goal.returns
returns c =
    let sets = table_after resolved_of c.args.self.now.types c.insert.new.self (string_bytes c.in_ok-clone.field-0) c.args.resolved c.in_ok-insert.ensures.updates in
    let same : string_bytes c.in_ok-clone.field-0 ≡ name_of c.args.name.now = search (rules) in
    (λ i m. sets m i) ∙ ap (λ n. with_name n (resolved_of c.args.resolved) (typedefs_of c.args.self.now)) same
