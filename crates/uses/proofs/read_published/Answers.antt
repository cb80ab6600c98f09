use Rattle.uses.proofs.Published.{if-ok, is_published}

pub returns : Rattle.uses.proofs.read_published.Goals.returns
returns g c = record {
  right = if-ok (λ a h. is_published h) c.deserialize_pagable_data.result c.deserialize_pagable_data.ensures.keyed;
}
