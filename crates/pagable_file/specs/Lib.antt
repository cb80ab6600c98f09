pub mod Bodies
pub mod Copies
pub mod Flaws
pub mod Laws
pub mod Listed
pub mod Plans
pub mod Logged
pub mod Settled
