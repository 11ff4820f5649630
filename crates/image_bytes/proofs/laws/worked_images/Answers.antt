use Rattle.std.proofs.Common.{◌<◌, arith}
use Rattle.image_bytes.proofs.laws.worked_images.Goals as goal

pub returns-clause-text : goal.returns-clause-text
returns-clause-text c h = let far : 128 < 128 = h.1.0.1.0.1.0 in omega arith

pub returns-clause-character : goal.returns-clause-character
returns-clause-character c h = let far : 128 < 128 = h.1.1.1.1.0.1.1.1.1.1.0.1.1.0.1.0 in omega arith

pub returns-clause-offset : goal.returns-clause-offset
returns-clause-offset c h = h.1.1.0.1.0.1.0

pub returns-clause-register : goal.returns-clause-register
returns-clause-register c h = let far : 4294967295 < 4294967295 = h.1.1.1.1.0.1.1.1.1.1.0.1.1.0.1.1.0 in omega arith
