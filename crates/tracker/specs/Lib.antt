pub mod Places
pub mod Rules
pub mod SetUp
pub mod Arrived
pub mod Join
pub mod FirstRun
pub mod Request
pub mod Inside
