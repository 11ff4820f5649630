use Rattle.c0_meaning.proofs.Pendings.{reaches_deref, reaches_field, reaches_index}
use Rattle.c0_meaning.proofs.pending.PlainRun.reach.Goals as goal

pub returns-in-Deref : goal.returns-in-Deref
returns-in-Deref c = reaches_deref c.args.context.now _ _ _ c.args.self.now c.deref.result c.deref.new.self c.in-Deref.is c.deref.ensures

pub returns-in-Index : goal.returns-in-Index
returns-in-Index c = reaches_index c.args.context.now _ _ _ _ c.args.self.now c.index.result c.index.new.self c.in-Index.is c.index.ensures

pub returns-in-Field : goal.returns-in-Field
returns-in-Field c = reaches_field c.args.context.now _ _ _ _ c.args.self.now c.field.result c.field.new.self c.in-Field.is (c.field.ensures c.args.context.now)
