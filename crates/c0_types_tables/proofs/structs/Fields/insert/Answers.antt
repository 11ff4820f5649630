use Rattle.std.proofs.Common.{string_bytes}
use Rattle.c0_types_tables.specs.Views.{field_entry_of}
use Rattle.c0_types_tables.proofs.Tables.{table_after}
use Rattle.c0_types_tables.proofs.structs.Fields.insert.Goals as goal

pub returns : goal.returns
returns c = λ i m. table_after field_entry_of c.args.self.now.entries c.insert.new.self (string_bytes c.args.name) c.args.field c.in_ok-insert.ensures.updates m i
