use Rattle.std.proofs.Common.{◌∙◌, sym, ap, map}
use Rattle.lower_tables.specs.Tables.{layouts_read, starts}
use Rattle.c0_typed.specs.Views.{type_of}
use Rattle.lower_tables.proofs.CodeOffsets.{table_end, table_step}
use Rattle.lower_tables.proofs.struct_layouts.all_starts.Goals as goal

pub loop-fields-preserved : goal.loop-fields-preserved
loop-fields-preserved c = λ n singles.
    let ls = layouts_read c.args.layouts.now in
    c.loop-fields.invariant n singles
    ∙ table_step n singles ls c.args.structs.now c.loop-fields.fields-index c.fields-item.result c.loop-fields.found.items c.push.new.self.items c.in_ok-field_starts.field-0 c.loop-fields-test.true c.fields-item.is c.in_ok-push.ensures.items
    (c.in_ok-field_starts.ensures n singles ∙ ap (λ ts. starts n singles ls 0 (map type_of ts)) c.deref.ensures.value)

pub returns : goal.returns
returns c = λ n singles.
    sym (c.loop-fields.invariant n singles ∙ table_end n singles (layouts_read c.args.layouts.now) c.args.structs.now c.loop-fields.fields-index c.loop-fields.found.items c.loop-fields-test.false)
