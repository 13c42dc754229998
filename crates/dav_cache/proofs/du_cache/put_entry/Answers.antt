use Rattle.std.proofs.Common.{ap, sym, ◌∙◌}
use Rattle.lru.specs.LruCache.{lru_cache}
use Rattle.dav_memory.specs.Entries.{Dots}
use Rattle.dav_cache.proofs.DotLists.{dot_put, on_ok}
use Rattle.dav_cache.proofs.du_cache.put_entry.Goals as goal

pub returns-clause-ok : goal.returns-clause-ok
returns-clause-ok c = λ is.
    on_ok c.put.result _ c.put.ensures.entries (sym c.is_ok.ensures.value ∙ is)
    ∙ ap (λ (es : Dots). lru_cache es c.args.entries.now.cap) (dot_put c.args.key c.args.entries.now.entries c.no_key_stands_twice.ensures.0 c.args.entry c.args.entries.now.cap c.no_key_stands_twice.ensures.1)
