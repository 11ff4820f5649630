use Rattle.image_reader.proofs.instructions.named_of.Goals as goal

pub returns-in-Const : goal.returns-in-Const
returns-in-Const c = rw c.in-Const.is c.constant.ensures

pub returns-in-TextOf : goal.returns-in-TextOf
returns-in-TextOf c = rw c.in-TextOf.is c.text.ensures

pub returns-in-BoolOf : goal.returns-in-BoolOf
returns-in-BoolOf c = rw c.in-BoolOf.is c.truth.ensures

pub returns-in-CharOf : goal.returns-in-CharOf
returns-in-CharOf c = rw c.in-CharOf.is c.character.ensures

pub returns-in-Null : goal.returns-in-Null
returns-in-Null c = rw c.in-Null.is c.null.ensures

pub returns-in-Move : goal.returns-in-Move
returns-in-Move c = rw c.in-Move.is c.moves.ensures

pub returns-in-Binary : goal.returns-in-Binary
returns-in-Binary c = rw c.in-Binary.is c.binary.ensures

pub returns-in-Unary : goal.returns-in-Unary
returns-in-Unary c = rw c.in-Unary.is c.unary.ensures

pub returns-in-Compare : goal.returns-in-Compare
returns-in-Compare c = rw c.in-Compare.is c.compare.ensures

pub returns-in-CheckNull : goal.returns-in-CheckNull
returns-in-CheckNull c = rw c.in-CheckNull.is c.check_null.ensures

pub returns-in-CheckIndex : goal.returns-in-CheckIndex
returns-in-CheckIndex c = rw c.in-CheckIndex.is c.check_index.ensures

pub returns-in-Len : goal.returns-in-Len
returns-in-Len c = rw c.in-Len.is c.length_of.ensures

pub returns-in-Aim : goal.returns-in-Aim
returns-in-Aim c = rw c.in-Aim.is c.aim.ensures

pub returns-in-Load : goal.returns-in-Load
returns-in-Load c = rw c.in-Load.is c.load.ensures

pub returns-in-Store : goal.returns-in-Store
returns-in-Store c = rw c.in-Store.is c.store.ensures

pub returns-in-Leave : goal.returns-in-Leave
returns-in-Leave c = rw c.in-Leave.is c.leave.ensures

pub returns-in-Prefetch : goal.returns-in-Prefetch
returns-in-Prefetch c = rw c.in-Prefetch.is c.prefetch.ensures

pub returns-in-Alloc : goal.returns-in-Alloc
returns-in-Alloc c = rw c.in-Alloc.is c.alloc_struct.ensures

pub returns-in-AllocArray : goal.returns-in-AllocArray
returns-in-AllocArray c = rw c.in-AllocArray.is c.alloc_array.ensures

pub returns-in-Call : goal.returns-in-Call
returns-in-Call c = rw c.in-Call.is c.call.ensures

pub returns-in-Print : goal.returns-in-Print
returns-in-Print c = rw c.in-Print.is c.print.ensures

pub returns-in-Println : goal.returns-in-Println
returns-in-Println c = rw c.in-Println.is c.println.ensures

pub returns-in-Printint : goal.returns-in-Printint
returns-in-Printint c = rw c.in-Printint.is c.printint.ensures

pub returns-in-Printbool : goal.returns-in-Printbool
returns-in-Printbool c = rw c.in-Printbool.is c.printbool.ensures

pub returns-in-Printchar : goal.returns-in-Printchar
returns-in-Printchar c = rw c.in-Printchar.is c.printchar.ensures

pub returns-in-Flush : goal.returns-in-Flush
returns-in-Flush c = rw c.in-Flush.is c.flush.ensures

pub returns-in-Assert : goal.returns-in-Assert
returns-in-Assert c = rw c.in-Assert.is c.assertion.ensures

pub returns-in-Jump : goal.returns-in-Jump
returns-in-Jump c = rw c.in-Jump.is c.jump.ensures

pub returns-in-Branch : goal.returns-in-Branch
returns-in-Branch c = rw c.in-Branch.is c.branches.ensures

pub returns-in-Return : goal.returns-in-Return
returns-in-Return c = rw c.in-Return.is c.returns.ensures

pub returns-in-ReturnVoid : goal.returns-in-ReturnVoid
returns-in-ReturnVoid c = rw c.in-ReturnVoid.is c.returns_void.ensures

pub returns-in-Error : goal.returns-in-Error
returns-in-Error c = rw c.in-Error.is c.error.ensures
