-- Where a piece ends, from left to right.
use Rattle.std.specs.Prelude.{ℕ, suc, ◌+◌, ◌-◌, Bool, true, false, not, ◌&&◌, if◌then◌else◌, ◌==◌, List, [], ◌∷◌, Option, Some, None}
use Rattle.c0_source.specs.Bytes.{is_blank, is_digit, is_word, is_printable, not_newline, escape}
use Rattle.c0_source.specs.Spelling.{is_some}

-- the end of a comment, and of `d` more around it, in a text that begins at `at`; `before` is the byte before, or 0 where it is used up
abbrev pub comment_end : ℕ → ℕ → ℕ → List ℕ → Option ℕ
comment_end d before at [] = None
comment_end d before at (b ∷ bs) =
    if before == 42 && b == 47 then (if d == 0 then Some (at + 1) else comment_end (d - 1) 0 (at + 1) bs)
    else (if before == 47 && b == 42 then comment_end (suc d) 0 (at + 1) bs else comment_end d b (at + 1) bs)

-- the end of a text, behind its closing quote; `escaped` tells that the byte before was a `\`
abbrev pub text_end : Bool → ℕ → List ℕ → Option ℕ
text_end escaped at [] = None
text_end true at (b ∷ bs) = if is_some (escape b) then text_end false (at + 1) bs else None
text_end false at (b ∷ bs) =
    if b == 34 then Some (at + 1)
    else (if b == 92 then text_end true (at + 1) bs else (if is_printable b then text_end false (at + 1) bs else None))

-- the end of a name, behind the `>` that follows it; `begun` tells that a part of the name stands before
abbrev pub name_end : Bool → ℕ → List ℕ → Option ℕ
name_end begun at [] = None
name_end begun at (b ∷ bs) =
    if b == 62 then (if begun then Some (at + 1) else None)
    else (if is_word b && not (not begun && is_digit b) then name_end true (at + 1) bs else None)

-- the end of what a `#use` names
abbrev pub use_end : ℕ → List ℕ → Option ℕ
use_end at [] = None
use_end at (b ∷ bs) =
    if is_blank b && not_newline b then use_end (at + 1) bs
    else (if b == 60 then name_end false (at + 1) bs else (if b == 34 then text_end false (at + 1) bs else None))
