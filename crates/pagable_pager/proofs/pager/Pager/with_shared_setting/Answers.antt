use Rattle.pagable_pager.proofs.LentCalls.{is-new}
use Rattle.std.specs.Arc.{arc_value}

pub returns-clause-empty : Rattle.pagable_pager.proofs.pager.Pager.with_shared_setting.Goals.returns-clause-empty
returns-clause-empty g c =
    let e = c.new.ensures in
    is-new g.S.PagableStorage (record {
      tables = c.new.result;
      values = c.new-2.result;
      storage = c.args.storage;
      environment = (arc_value c.args.setting).env;
    })
    e.rows e.nodes e.list e.cache c.new-2.ensures e.loads e.workers e.last
