-- How far a polled pin has come.
use Rattle.pagable_locked.specs.declared.handle_pin.PinState.{PinState}
use Rattle.pagable_traits.specs.declared.pin_future.PinStage.{PinStage}

abbrev pub stage_of : PinState → PinStage
stage_of PinState.Begin = PinStage.Begin
stage_of (PinState.Fetch reading) = PinStage.Fetch
stage_of PinState.Ended = PinStage.Ended
