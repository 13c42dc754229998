use Rattle.std.proofs.Common.{ap, ◌∙◌}
use Rattle.lru.specs.LruCache.{lru_cache}
use Rattle.dav_memory.specs.Entries.{Dots}
use Rattle.dav_cache.proofs.DotLists.{dot_removed}
use Rattle.dav_cache.proofs.du_cache.drop_key.Goals as goal

pub returns : goal.returns
returns c =
    c.pop-entry.ensures.entries ∙ ap (λ (es : Dots). lru_cache es c.args.entries.now.cap) (dot_removed c.args.key.now c.args.entries.now.entries c.no_key_stands_twice.ensures.0)
