mod Words
pub mod RoundTrip
pub mod Trees
mod Merkle
pub mod Naturality
pub mod CascadeWitness
pub mod HandlesKept
pub mod Effects
pub mod CallEffects
pub mod ReadingSteps
pub mod EventEffects
mod SlotsGrow
mod NewClaims
pub mod LoadResults
pub mod Decoding
pub mod FormsOfTrees
mod TablesKept
pub mod LoadProgress
pub mod TreeProgress
pub mod Chains
pub mod NewPager
mod SmallPagers
mod WitnessRun
mod DepthBounds
pub mod StepBounds
pub mod Moments
pub mod Operations
pub mod HeldValues
pub mod Callers
mod LoadFaults
mod RefusalCauses
mod RefusalEffects
mod UninterruptedLoads
mod CallerFailures
mod CallerDepths
mod Heights
pub mod ValueRows
pub mod ValuesOwned
mod Laws
