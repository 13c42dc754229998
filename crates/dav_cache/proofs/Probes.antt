-- What a look-up of a path finds.
use Rattle.std.proofs.Common.{◌≡◌, Option, Some, None, option_map, refl, sym, ap, ◌∙◌}
use Rattle.std.specs.Map.{lookup}
use Rattle.dav_memory.specs.Trees.{Names, same_path, fold_path}
use Rattle.dav_memory.specs.Entries.{Paths, AllFolded, promoted}
use Rattle.dav_memory.specs.declared.entry.PathEntry.{PathEntry}
use Rattle.dav_cache.proofs.Paths.{folded-lookup, folded-without}

-- a path that an entry tells folds like the key
pub looked-folds : (key path : Names) (es : Paths) → AllFolded es → Some path ≡ option_map (λ e. e.path) (lookup (same_path key) es)
    → fold_path path ≡ key
looked-folds key path es all h = by_entry (lookup (same_path key) es) refl h
  where
    by_entry : (o : Option PathEntry) → lookup (same_path key) es ≡ o → Some path ≡ option_map (λ e. e.path) o → fold_path path ≡ key
    by_entry None is h = cc
    by_entry (Some e) is h = let same : path ≡ e.path = cc in ap fold_path same ∙ folded-lookup key es e all is

pub folded-promoted : (key : Names) (es : Paths) → AllFolded es → (o : Option PathEntry) → lookup (same_path key) es ≡ o
    → AllFolded (promoted key o es)
folded-promoted key es all None h = all
folded-promoted key es all (Some e) h = (sym (folded-lookup key es e all h), folded-without (same_path key) es all)
