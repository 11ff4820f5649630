use Rattle.std.proofs.Common.{rules, ◌≡◌, ◌∷◌, ◌++◌, [], ap, sym, ◌∙◌, subst, arith, length, map, string_bytes}
use Rattle.c0_types_declarations.specs.DeclarationViews.{typed_field_of}
use Rattle.c0_rules.specs.Types.{with_name}
use Rattle.c0_types_tables.specs.Views.{field_table_of, resolved_of}
use Rattle.c0_types_declarations.proofs.FieldLists.{Tabled, table_first, table_last, table_more}
use Rattle.c0_types_declarations.proofs.definitions.field_table.Goals as goal

pub returns : goal.returns
returns c =
    let none : length c.loop-field.fields.items ≡ 0 = omega (arith, c.in_default.ensures.cases) in
    table_last (map typed_field_of c.args.fields.items) c.loop-field.fields.items (field_table_of c.loop-field.table) none c.loop-field.invariant

pub loop-field-init : goal.loop-field-init
loop-field-init c = table_first c.args.fields.items (field_table_of c.new-table.result) c.new-table.ensures

pub loop-field-preserved : goal.loop-field-preserved
loop-field-preserved c =
    let long : c.len-number.result ≡ length c.pop.new.self.items = search (rules) in
    let before : c.loop-field.fields.items ≡ c.pop.new.self.items ++ c.in-Some.field ∷ [] = c.in-Some.ensures.items in
    let more = table_more (map typed_field_of c.args.fields.items) c.pop.new.self.items c.loop-field.fields.items c.in-Some.field (field_table_of c.loop-field.table) before c.loop-field.invariant in
    let after = c.in_ok-insert.ensures ∙ ap (λ k. with_name (string_bytes c.in-Some.field.name) (k, resolved_of c.in-Some.field.resolved) (field_table_of c.loop-field.table)) long in
    subst (Tabled (map typed_field_of c.args.fields.items) c.pop.new.self.items) (sym after) more
