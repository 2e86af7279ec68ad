pub mod Paths
pub mod Sound
pub mod RecordLaws
pub mod Deliveries
pub mod Passings
pub mod Leavings
pub mod GivenLaws
pub mod GrownLaws
