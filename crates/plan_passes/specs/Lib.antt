pub mod Packets
pub mod Pdus
