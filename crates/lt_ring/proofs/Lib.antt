mod Marked
mod Places
mod SeenRings
mod SeenWaits
