pub mod EveryPlace
pub mod Granting
pub mod Reaching
pub mod Framing
pub mod Driving
pub mod Numbers
