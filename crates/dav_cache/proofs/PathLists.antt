-- What `lru` does to path entries.
use Rattle.std.proofs.Common.{◌≡◌, ℕ, ◌-◌, ◌≤◌, true, length, Option, Some, None, refl, ◌∙◌}
use Rattle.std.specs.List.{IsDistinct}
use Rattle.std.specs.Map.{keys_of, lookup, remove_entry}
use Rattle.lru.specs.LruCache.{lru_cache, put_entries, promoted as to_front}
use Rattle.dav_memory.specs.Trees.{Names, same_path, fold_path}
use Rattle.dav_memory.specs.Entries.{Paths, AllFolded, without, put, promoted}
use Rattle.dav_memory.specs.declared.entry.PathEntry.{PathEntry}
use Rattle.dav_memory.proofs.Keys.{path_decides}
use Rattle.dav_cache.proofs.Lru.{front_of, removed_is, front_is, put_is}
use Rattle.dav_cache.proofs.Paths.{folded-take, folded-without}

exact : (a b : Names) → same_path a b ≡ true → a ≡ b
exact a b h = (path_decides a b).0 h

front_alike : (key : Names) (o : Option PathEntry) (es : Paths) → front_of same_path key o es ≡ promoted key o es
front_alike key None es = refl
front_alike key (Some e) es = refl

module _ (key : Names) (es : Paths) (distinct : IsDistinct same_path (keys_of es)) where
  pub path_removed : remove_entry (same_path key) es ≡ without (same_path key) es
  path_removed = removed_is same_path exact key es distinct

  pub path_promoted : to_front (same_path key) es ≡ promoted key (lookup (same_path key) es) es
  path_promoted = front_is same_path exact key es distinct ∙ front_alike key (lookup (same_path key) es) es

  pub path_put : (entry : PathEntry) (size : ℕ) → length es ≤ size
      → put_entries same_path (lru_cache es size) key entry ≡ put size (same_path key) key entry es
  path_put entry size fits = put_is same_path exact key es distinct entry size fits

pub folded-put : (size : ℕ) (key : Names) (entry : PathEntry) (es : Paths) → key ≡ fold_path entry.path → AllFolded es
    → AllFolded (put size (same_path key) key entry es)
folded-put size key entry es own all = (own, folded-take (size - 1) (without (same_path key) es) (folded-without (same_path key) es all))
