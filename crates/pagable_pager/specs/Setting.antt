-- The environment of a pager's setting, its own or a shared one.
use Rattle.pagable_pager.specs.declared.setting.PagerSetting.{PagerSetting}
use Rattle.std.specs.Arc.{arc_value}

abbrev pub environment_of : {E N H K V : Type 0} → PagerSetting E N H K V → E
environment_of (PagerSetting.Owned setting) = setting.env
environment_of (PagerSetting.Shared setting) = (arc_value setting).env
