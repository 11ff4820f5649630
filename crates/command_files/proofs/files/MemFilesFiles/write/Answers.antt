use Rattle.std.proofs.Common.{Vec, Global, Option, ℕ, Some, ap, ◌∙◌, ⊎_elim}
use Rattle.std.specs.Prelude.{option_map}
use Rattle.std.proofs.lemmas.Map.Text.{btree_map_text_after}
use Rattle.command_files.proofs.files.MemFilesFiles.write.Goals as goal

-- a file of another name holds what it held
pub returns-in-Ok-insert-clause-others : goal.returns-in-Ok-insert-clause-others
returns-in-Ok-insert-clause-others c n other =
    let found = btree_map_text_after c.in-Ok.key n c.args.self.now.files.entries c.insert.new.self.entries c.in-Ok-insert.ensures.updates.3 in
    ⊎_elim
    (λ same. absurd (other (same.2 ∙ c.in-Ok.ensures.ok)))
    (λ apart. ap (λ (o : Option (Vec ℕ Global)). Some (option_map (λ (v : Vec ℕ Global). v.items) o)) apart.3)
    found.2
