pub mod Lawful
pub mod Proper
