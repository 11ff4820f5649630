-- Tokens that are to be written, as code holds them.
use Rattle.std.specs.Prelude.{true, false}
use Rattle.c0_source.specs.Terminals as s
use Rattle.c0_syntax.specs.declared.mark.Terminal.{Terminal}
use Rattle.c0_syntax.specs.declared.mark.Terminal.TheVariants as t
use Rattle.c0_syntax.specs.declared.mark.Mark.{Mark}
use Rattle.c0_syntax.specs.Layouts as l

-- a token
abbrev pub terminal_of : Terminal → s.Terminal
terminal_of (t.Word x) = s.Word x.now
terminal_of (t.Text text) = s.Text text.now
terminal_of (t.UseName x) = s.Use true x.now
terminal_of (t.UseText text) = s.Use false text.now
terminal_of (t.Sign kind) = s.Sign kind

-- a token and the gap before it
abbrev pub mark_of : Mark → l.Mark
mark_of x = record { gap = x.gap; token = terminal_of x.terminal }
