-- What is built of files, by names that are equal.
use Rattle.std.proofs.Common.{◌≡◌, ◌≢◌, ◌∙◌, ℕ, List, subst}
use Rattle.command_line.specs.Shell.{Compiling}
use Rattle.c0far.specs.Driven.{Builds, KeepsFiles, WritesOnly}
use Rattle.command_files.specs.FileTexts.{Known}
use Rattle.streams.specs.Streams.{Writes}

pub built_at : (held now : List ℕ → Known) (f g : List ℕ) (c d : Compiling) (t u : List ℕ) (out err : Writes) (result : ℕ) → f ≡ g → c ≡ d → t ≡ u
    → Builds f c t (held f) (held t) (now t) out err result → Builds g d u (held g) (held u) (now u) out err result
built_at held now f g c d t u out err result e h k b =
    subst (λ (x : List ℕ). Builds g d x (held g) (held x) (now x) out err result) k
    (subst (λ (x : Compiling). Builds g x t (held g) (held t) (now t) out err result) h
    (subst (λ (x : List ℕ). Builds x c t (held x) (held t) (now t) out err result) e b))

pub only_at : (held now : List ℕ → Known) (f g t u : List ℕ) → f ≡ g → t ≡ u → WritesOnly f t held now → WritesOnly g u held now
only_at held now f g t u e k h =
    subst (λ (x : List ℕ). WritesOnly g x held now) k (subst (λ (x : List ℕ). WritesOnly x t held now) e h)

-- nothing is written
pub writes_none : (held now : List ℕ → Known) (f t : List ℕ) → KeepsFiles held now → WritesOnly f t held now
writes_none held now f t same = record { others = λ name other. same name; text = same f }

-- the target is written, which is not the text
pub writes_one : (held read now : List ℕ → Known) (f t : List ℕ) → KeepsFiles held read → ((name : List ℕ) → (name ≡ t → ⊥) → now name ≡ read name) → f ≢ t
    → WritesOnly f t held now
writes_one held read now f t same others differ = record { others = λ name other. others name other ∙ same name; text = others f differ ∙ same f }
