pub mod Network
pub mod Cases
pub mod Working
pub mod Serving
pub mod Carried
pub mod Runs
pub mod Apart
pub mod Hearing
