pub mod Invariant
pub mod HeldByEnds
pub mod NewValues
pub mod LentCalls
pub mod LeafCalls
pub mod ReleasedAlone
pub mod LeafWorkerSteps
pub mod LeafWorker
pub mod LeafCallEffects
pub mod LeafPageOuts
pub mod LeafBatches
pub mod LeafRuns
pub mod LeafPins
pub mod LentPins
pub mod TakenLeaves
mod OwnKeys
