use Rattle.record_store.proofs.Handling.{flushed-so}
use Rattle.record_store.proofs.record_store.save_under.Goals as goal

pub returns-in-Ok-set_root-clause-saves : goal.returns-in-Ok-set_root-clause-saves
returns-in-Ok-set_root-clause-saves g c = λ honest.
    let named = c.flush.ensures.asks.honest honest in
    let paged = c.in-Ok-set_root.ensures.asks.honest named in
    flushed-so c.flush.result (λ flushes. record {
      key = c.in-Ok.key;
      paged = c.page_out_changed.new.pager;
      named = c.set_root.new.self;
      pages = c.in-Ok.ensures.pages paged;
      trees = c.in-Ok.ensures.keeps_trees paged;
      names = c.in-Ok-set_root.ensures.sets named;
      asks = c.in-Ok-set_root.ensures.asks;
      flushes = flushes;
      stays = c.flush.ensures.same_names honest;
    }) c.flush.ensures.asks
