use Rattle.std.proofs.Common.{ℕ, refl, arith}
use Rattle.std.specs.Prelude.{slice_index}
use Rattle.std.proofs.lemmas.Bool.{ne_eqb}
use Rattle.c0_source.specs.declared.kind.Kind.TheVariants as k
use Rattle.c0_source.specs.Spelling.{signs}
use Rattle.c0_lexer.proofs.Signs.{begun, group_front, lone_front, no_sign}
use Rattle.c0_lexer.proofs.piece.sign.Goals as goal

pub returns-in-40 : goal.returns-in-40
returns-in-40 c = lone_front c.args.mode 40 k.LParen c.args.text.now c.one_byte.result c.requires.some c.requires.first c.in-40.is (record { order = refl; plain = refl; empty = refl; same = λ t. refl }) c.one_byte.ensures

pub returns-in-41 : goal.returns-in-41
returns-in-41 c = lone_front c.args.mode 41 k.RParen c.args.text.now c.one_byte-in-41.result c.requires.some c.requires.first c.in-41.is (record { order = refl; plain = refl; empty = refl; same = λ t. refl }) c.one_byte-in-41.ensures

pub returns-in-123 : goal.returns-in-123
returns-in-123 c = lone_front c.args.mode 123 k.LBrace c.args.text.now c.one_byte-in-123.result c.requires.some c.requires.first c.in-123.is (record { order = refl; plain = refl; empty = refl; same = λ t. refl }) c.one_byte-in-123.ensures

pub returns-in-125 : goal.returns-in-125
returns-in-125 c = lone_front c.args.mode 125 k.RBrace c.args.text.now c.one_byte-in-125.result c.requires.some c.requires.first c.in-125.is (record { order = refl; plain = refl; empty = refl; same = λ t. refl }) c.one_byte-in-125.ensures

pub returns-in-91 : goal.returns-in-91
returns-in-91 c = lone_front c.args.mode 91 k.LBracket c.args.text.now c.one_byte-in-91.result c.requires.some c.requires.first c.in-91.is (record { order = refl; plain = refl; empty = refl; same = λ t. refl }) c.one_byte-in-91.ensures

pub returns-in-93 : goal.returns-in-93
returns-in-93 c = lone_front c.args.mode 93 k.RBracket c.args.text.now c.one_byte-in-93.result c.requires.some c.requires.first c.in-93.is (record { order = refl; plain = refl; empty = refl; same = λ t. refl }) c.one_byte-in-93.ensures

pub returns-in-59 : goal.returns-in-59
returns-in-59 c = lone_front c.args.mode 59 k.Semi c.args.text.now c.one_byte-in-59.result c.requires.some c.requires.first c.in-59.is (record { order = refl; plain = refl; empty = refl; same = λ t. refl }) c.one_byte-in-59.ensures

pub returns-in-44 : goal.returns-in-44
returns-in-44 c = lone_front c.args.mode 44 k.Comma c.args.text.now c.one_byte-in-44.result c.requires.some c.requires.first c.in-44.is (record { order = refl; plain = refl; empty = refl; same = λ t. refl }) c.one_byte-in-44.ensures

pub returns-in-46 : goal.returns-in-46
returns-in-46 c = lone_front c.args.mode 46 k.Dot c.args.text.now c.one_byte-in-46.result c.requires.some c.requires.first c.in-46.is (record { order = refl; plain = refl; empty = refl; same = λ t. refl }) c.one_byte-in-46.ensures

pub returns-in-63 : goal.returns-in-63
returns-in-63 c = lone_front c.args.mode 63 k.Question c.args.text.now c.one_byte-in-63.result c.requires.some c.requires.first c.in-63.is (record { order = refl; plain = refl; empty = refl; same = λ t. refl }) c.one_byte-in-63.ensures

pub returns-in-58 : goal.returns-in-58
returns-in-58 c = lone_front c.args.mode 58 k.Colon c.args.text.now c.one_byte-in-58.result c.requires.some c.requires.first c.in-58.is (record { order = refl; plain = refl; empty = refl; same = λ t. refl }) c.one_byte-in-58.ensures

pub returns-in-126 : goal.returns-in-126
returns-in-126 c = lone_front c.args.mode 126 k.Tilde c.args.text.now c.one_byte-in-126.result c.requires.some c.requires.first c.in-126.is (record { order = refl; plain = refl; empty = refl; same = λ t. refl }) c.one_byte-in-126.ensures

pub returns-in-60 : goal.returns-in-60
returns-in-60 c = group_front c.args.mode 60 (begun 60 signs) c.args.text.now c.first_entry.result c.requires.some c.requires.first c.in-60.is (record { order = refl; plain = refl; empty = refl; same = λ t. refl }) c.first_entry.ensures

pub returns-in-62 : goal.returns-in-62
returns-in-62 c = group_front c.args.mode 62 (begun 62 signs) c.args.text.now c.first_entry-in-62.result c.requires.some c.requires.first c.in-62.is (record { order = refl; plain = refl; empty = refl; same = λ t. refl }) c.first_entry-in-62.ensures

pub returns-in-45 : goal.returns-in-45
returns-in-45 c = group_front c.args.mode 45 (begun 45 signs) c.args.text.now c.first_entry-in-45.result c.requires.some c.requires.first c.in-45.is (record { order = refl; plain = refl; empty = refl; same = λ t. refl }) c.first_entry-in-45.ensures

pub returns-in-43 : goal.returns-in-43
returns-in-43 c = group_front c.args.mode 43 (begun 43 signs) c.args.text.now c.first_entry-in-43.result c.requires.some c.requires.first c.in-43.is (record { order = refl; plain = refl; empty = refl; same = λ t. refl }) c.first_entry-in-43.ensures

pub returns-in-124 : goal.returns-in-124
returns-in-124 c = group_front c.args.mode 124 (begun 124 signs) c.args.text.now c.first_entry-in-124.result c.requires.some c.requires.first c.in-124.is (record { order = refl; plain = refl; empty = refl; same = λ t. refl }) c.first_entry-in-124.ensures

pub returns-in-38 : goal.returns-in-38
returns-in-38 c = group_front c.args.mode 38 (begun 38 signs) c.args.text.now c.first_entry-in-38.result c.requires.some c.requires.first c.in-38.is (record { order = refl; plain = refl; empty = refl; same = λ t. refl }) c.first_entry-in-38.ensures

pub returns-in-61 : goal.returns-in-61
returns-in-61 c = group_front c.args.mode 61 (begun 61 signs) c.args.text.now c.first_entry-in-61.result c.requires.some c.requires.first c.in-61.is (record { order = refl; plain = refl; empty = refl; same = λ t. refl }) c.first_entry-in-61.ensures

pub returns-in-33 : goal.returns-in-33
returns-in-33 c = group_front c.args.mode 33 (begun 33 signs) c.args.text.now c.first_entry-in-33.result c.requires.some c.requires.first c.in-33.is (record { order = refl; plain = refl; empty = refl; same = λ t. refl }) c.first_entry-in-33.ensures

pub returns-in-42 : goal.returns-in-42
returns-in-42 c = group_front c.args.mode 42 (begun 42 signs) c.args.text.now c.first_entry-in-42.result c.requires.some c.requires.first c.in-42.is (record { order = refl; plain = refl; empty = refl; same = λ t. refl }) c.first_entry-in-42.ensures

pub returns-in-37 : goal.returns-in-37
returns-in-37 c = group_front c.args.mode 37 (begun 37 signs) c.args.text.now c.first_entry-in-37.result c.requires.some c.requires.first c.in-37.is (record { order = refl; plain = refl; empty = refl; same = λ t. refl }) c.first_entry-in-37.ensures

pub returns-in-94 : goal.returns-in-94
returns-in-94 c = group_front c.args.mode 94 (begun 94 signs) c.args.text.now c.first_entry-in-94.result c.requires.some c.requires.first c.in-94.is (record { order = refl; plain = refl; empty = refl; same = λ t. refl }) c.first_entry-in-94.ensures

pub returns-in_default : goal.returns-in_default
returns-in_default c =
    let b : ℕ = slice_index c.args.text.now 0 in
    no_sign c.args.mode c.args.text.now c.requires.some c.requires.first (λ t. rw (ne_eqb 40 b (λ e. omega arith), ne_eqb 41 b (λ e. omega arith), ne_eqb 123 b (λ e. omega arith), ne_eqb 125 b (λ e. omega arith), ne_eqb 91 b (λ e. omega arith), ne_eqb 93 b (λ e. omega arith), ne_eqb 59 b (λ e. omega arith), ne_eqb 44 b (λ e. omega arith), ne_eqb 46 b (λ e. omega arith), ne_eqb 63 b (λ e. omega arith), ne_eqb 58 b (λ e. omega arith), ne_eqb 126 b (λ e. omega arith), ne_eqb 60 b (λ e. omega arith), ne_eqb 62 b (λ e. omega arith), ne_eqb 45 b (λ e. omega arith), ne_eqb 43 b (λ e. omega arith), ne_eqb 124 b (λ e. omega arith), ne_eqb 38 b (λ e. omega arith), ne_eqb 61 b (λ e. omega arith), ne_eqb 33 b (λ e. omega arith), ne_eqb 42 b (λ e. omega arith), ne_eqb 37 b (λ e. omega arith), ne_eqb 94 b (λ e. omega arith)) refl)
